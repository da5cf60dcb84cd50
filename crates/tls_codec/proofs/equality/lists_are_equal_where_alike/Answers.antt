use Rattle.tls_codec.proofs.Alike.{lists_alike}
use Rattle.tls_codec.proofs.equality.lists_are_equal_where_alike.Goals as goal

pub returns-clause-lists : goal.returns-clause-lists
returns-clause-lists g c = λ alike x y e. lists_alike g.T.Size.plain g.T.PartialEq.eq alike x.items y.items e

pub returns-clause-counted : goal.returns-clause-counted
returns-clause-counted g c = λ alike x y e. lists_alike g.T.Size.plain g.T.PartialEq.eq alike x.vec.items y.vec.items e

pub returns-clause-secret : goal.returns-clause-secret
returns-clause-secret g c = λ alike x y e. lists_alike g.T.Size.plain g.T.PartialEq.eq alike x.vec.items y.vec.items e
