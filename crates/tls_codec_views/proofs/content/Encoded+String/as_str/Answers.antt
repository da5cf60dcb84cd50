use Rattle.tls_codec_grammar.specs.Grammar.{utf8}
use Rattle.tls_codec_grammar.specs.laws.FormatLaws.{variable_field_meets}
use Rattle.tls_codec_views.proofs.Parts.{inside_left}
use Rattle.tls_codec_views.proofs.content.Encoded+String.as_str.Goals as goal

pub unreachable-requires : goal.unreachable-requires
unreachable-requires c =
    let text = inside_left utf8 variable_field_meets _ _ c.self.invariant c.after_length.ensures in
    c.in-Err.ensures.cases.0 text.1.1
