use Rattle.std.proofs.Common.{ℕ, List}
use Rattle.tls_codec_grammar.specs.Tree.{Tree}
use Rattle.tls_codec_grammar.specs.Grammar.{Direction, Grammar, Reading, Writing}
use Rattle.tls_codec_grammar.specs.Shortest.{IsShortest}
use Rattle.tls_codec_grammar.specs.Lawful.{IsLawful}
use Rattle.tls_codec_grammar.specs.laws.AloneLaws.{alone_shortest}
use Rattle.tls_codec_base.proofs.laws.spellings_are_shortest_forms.Goals as goal

shortest : {spells : Grammar} {announced : Tree → ℕ} → IsLawful spells announced → (d : Direction) (s : List ℕ) (v : Tree) → spells d s v → IsShortest spells s v
shortest l Reading s v p = alone_shortest l s v (l.written s v p)
shortest l Writing s v p = alone_shortest l s v p

pub returns : goal.returns
returns g c = shortest g.met.T.Size.lawful.spelled
