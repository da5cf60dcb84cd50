-- What is written of a pair, of which the first part decides the others, as of a product.
use Rattle.std.proofs.Common.{ℕ, List, inl, inr}
use Rattle.tls_codec_wire.specs.declared.device.Sink.{Ghosts}
use Rattle.tls_codec_wire.specs.declared.error.Error.{Error}
use Rattle.tls_codec_grammar.specs.Tree.{Tree, Join}
use Rattle.tls_codec_grammar.specs.Format.{Format, fields_format}
use Rattle.tls_codec_grammar.specs.Encoding.{Appended, AppendRefused, Breaks, Sends}
use Rattle.tls_codec_grammar.specs.Contexts.{then_format}

module _ (first : Format) (rest : Tree → Format) {v vs : Tree} where
  pub then_sends : {S : Type 0} {sink : Ghosts S} {a b : S} {n : ℕ} → Sends (fields_format first (rest v)) (Join v vs) sink a b n → Sends (then_format first rest) (Join v vs) sink a b n
  then_sends p = record {
    form = p.form;
    shortest = record { spelled = p.shortest.spelled; least = p.shortest.least };
    held = p.held;
    count = p.count;
    fell = p.fell;
  }

  pub then_breaks : {S : Type 0} {sink : Ghosts S} {a b : S} {e : Error} → Breaks (fields_format first (rest v)) (Join v vs) sink a b e → Breaks (then_format first rest) (Join v vs) sink a b e
  then_breaks p = record {
    sent = p.sent;
    held = p.held;
    beginning = λ s q. p.beginning s (record { spelled = q.spelled; least = q.least });
    cause = p.cause;
    fell = p.fell;
  }

  pub then_appended : {a b : List ℕ} {n : ℕ} → Appended (fields_format first (rest v)) (Join v vs) a b n → Appended (then_format first rest) (Join v vs) a b n
  then_appended p = record {
    form = p.form;
    shortest = record { spelled = p.shortest.spelled; least = p.shortest.least };
    held = p.held;
    count = p.count;
  }

  pub then_not_appended : {a b : List ℕ} {e : Error} → AppendRefused (fields_format first (rest v)) (Join v vs) a b e → AppendRefused (then_format first rest) (Join v vs) a b e
  then_not_appended p = record {
    kept = p.kept;
    cause = elim p.cause [
      | inl memory ↦ inl memory
      | inr (inl named) ↦ inr (inl named)
      | inr (inr long) ↦ inr (inr (long.0, λ s q. long.1 s (record { spelled = q.spelled; least = q.least })))
    ];
  }
