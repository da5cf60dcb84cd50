use Rattle.std.proofs.Common.{◌-◌, take, drop, arith, refl}
use Rattle.tls_codec_grammar.proofs.LengthFields.{slice_form}
use Rattle.tls_codec_grammar.proofs.length_field.writing.write_length.Goals as goal

pub returns-clause-ok : goal.returns-clause-ok
returns-clause-ok g c =
    let b = c.in-Some.found.0 in
    let k = c.in-Some.found.1 in
    record {
      form = take (8 - k) (drop k b);
      spelled = slice_form (λ s. g.F.LengthField.field.spells s c.args.content_length) b k (omega arith) c.in-Some.ensures.0 c.in-Some.ensures.1;
      held = c.in_ok-write_all.ensures.whole;
      count = refl;
    }

pub returns-clause-beginning : goal.returns-clause-beginning
returns-clause-beginning g c held =
    let b = c.in-Some.found.0 in
    let k = c.in-Some.found.1 in
    record {
      form = take (8 - k) (drop k b);
      spelled = slice_form (λ s. g.F.LengthField.field.spells s c.args.content_length) b k (omega arith) c.in-Some.ensures.0 c.in-Some.ensures.1;
      received = c.write_all.ensures.beginning;
    }

pub returns-in_err-write_all-clause-beginning : goal.returns-in_err-write_all-clause-beginning
returns-in_err-write_all-clause-beginning g c held =
    let b = c.in-Some.found.0 in
    let k = c.in-Some.found.1 in
    record {
      form = take (8 - k) (drop k b);
      spelled = slice_form (λ s. g.F.LengthField.field.spells s c.args.content_length) b k (omega arith) c.in-Some.ensures.0 c.in-Some.ensures.1;
      received = c.write_all.ensures.beginning;
    }
