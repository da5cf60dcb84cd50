use Rattle.std.proofs.Common.{inl, inr}
use Rattle.tls_codec_base.proofs.laws.encoders.encoders_refuse_only_what_has_no_form.Goals as goal

pub returns : goal.returns
returns g c =
    let l = g.met.T.Size.lawful in
    record {
      sent = λ form v old new e p r. elim r.cause [
        | inl device ↦ device
        | inr named ↦ absurd (l.unspelled v e named form p.spelled)
      ];
      begun = λ form v old new e p r. record { front = r.sent; held = r.held; beginning = r.beginning form p };
      made = λ form v e p r. elim r.cause [
        | inl memory ↦ inl memory
        | inr (inl named) ↦ absurd (l.unspelled v e named form p.spelled)
        | inr (inr long) ↦ inr (long.0, long.1 form p)
      ];
      appended = λ form old new v e p r. elim r.cause [
        | inl memory ↦ inl memory
        | inr (inl named) ↦ absurd (l.unspelled v e named form p.spelled)
        | inr (inr long) ↦ inr (long.0, long.1 form p)
      ];
    }
