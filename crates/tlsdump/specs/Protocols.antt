-- The types of each protocol.
use Rattle.std.specs.Prelude.{List}
use Rattle.tlsdump.specs.CtKinds.{ct_kinds}
use Rattle.tlsdump.specs.Kinds.{Kind}
use Rattle.tlsdump.specs.MlsKinds.{mls_kinds}
use Rattle.tlsdump.specs.Tls13Kinds.{tls13_kinds}
use Rattle.tlsdump.specs.declared.kinds.Protocol.{Protocol}
use Rattle.tlsdump.specs.declared.kinds.Protocol.TheVariants.{Mls, Tls13, Ct}

-- the types of a protocol
abbrev pub kinds_of : Protocol → List Kind
kinds_of Mls = mls_kinds
kinds_of Tls13 = tls13_kinds
kinds_of Ct = ct_kinds
