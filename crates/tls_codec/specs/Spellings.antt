-- For statements about which bytes spell a value: grammars and their laws, shortest forms, and what
-- begins with a spelling.
pub use Rattle.tls_codec_grammar.specs.Grammar.{Direction, Reading, Writing, Grammar, number, varint, array, option, nothing, fields, pair, triple, list, fixed_list, bytes, text}
pub use Rattle.tls_codec_grammar.specs.Shortest.{HasNoSpelling, IsFull, IsHollow, IsShortest}
pub use Rattle.tls_codec_grammar.specs.Lawful.{IsLawful}
pub use Rattle.tls_codec_grammar.specs.Decoding.{Begins, ComesFirst, GaveSpelling, LeavesBytes, NoneBegins, NoneSpelled, Refuses, RefusesSeen, RefusesWhole}
