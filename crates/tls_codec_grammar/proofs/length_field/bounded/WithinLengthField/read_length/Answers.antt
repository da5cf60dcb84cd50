use Rattle.std.proofs.Common.{inr, refl}
use Rattle.tls_codec_wire.proofs.Seen.{refused_now}
use Rattle.tls_codec_grammar.proofs.length_field.bounded.WithinLengthField.read_length.Goals as goal

pub returns-then-not-is_between-clause-refused : goal.returns-then-not-is_between-clause-refused
returns-then-not-is_between-clause-refused g c =
    let p = c.in_ok-length.ensures.ok in
    refused_now p.front g.met.R.Source.gives_nothing p.held (λ rest. inr (record {
      number = c.in_ok-length.length;
      rest = rest;
      begins = record { front = p.front; whole = refl; spelled = p.spelled };
      outside = c.if-not-is_between.ensures.outside refl;
    }))
