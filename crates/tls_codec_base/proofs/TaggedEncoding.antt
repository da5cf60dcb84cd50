-- What is written of a choice, as a product: from what is written of its tag and of the parts after it.
use Rattle.std.proofs.Common.{◌⊎◌, ℕ, List, inl, inr, Result, Ok, Err, Vec, arith}
use Rattle.std.specs.Global.{Global}
use Rattle.tls_codec_wire.specs.declared.device.Sink.{Ghosts}
use Rattle.tls_codec_wire.specs.declared.error.Error.{Error}
use Rattle.tls_codec_grammar.specs.Tree.{Tree, Number, Empty, Join}
use Rattle.tls_codec_grammar.specs.Format.{Format, fields_format, nothing_format, number_format}
use Rattle.tls_codec_grammar.specs.Lawful.{MeetsLaws}
use Rattle.tls_codec_grammar.specs.Encoding.{AppendsForm, Breaks, Makes, Sends, Writes}
use Rattle.tls_codec_grammar.specs.Tagged.{MeetsVariantLaws, Variants, tagged_format}
use Rattle.tls_codec_grammar.specs.laws.FormatLaws.{nothing_meets}
use Rattle.tls_codec_grammar.proofs.Sent.{sends_count}
use Rattle.tls_codec_base.proofs.FieldsEncoding.{fields_breaks_first, fields_sends, nothing_sends}
use Rattle.tls_codec_base.proofs.PartsAppending.{fields_appended, first_not_appended, nothing_appended}

-- the errors that the tag and the parts name are those of the choice
either_part : {A B : Type 0} → A ⊎ (⊥ ⊎ B) → A ⊎ B
either_part (inl a) = inl a
either_part (inr (inl none)) = absurd none
either_part (inr (inr b)) = inr b

either_cause : {A B C : Type 0} → A ⊎ ((⊥ ⊎ B) ⊎ C) → A ⊎ (B ⊎ C)
either_cause (inl a) = inl a
either_cause (inr (inl (inl none))) = absurd none
either_cause (inr (inl (inr b))) = inr (inl b)
either_cause (inr (inr c)) = inr (inr c)

module _ (k n : ℕ) {variants : Variants} (m : MeetsVariantLaws variants) (vs : Tree) where
  tagged_sends : {S : Type 0} {sink : Ghosts S} {a b : S} {j : ℕ} → Sends (fields_format (number_format k) (variants.parts n)) (Join (Number n) vs) sink a b j → Sends (tagged_format k variants) (Join (Number n) vs) sink a b j
  tagged_sends p = record {
    form = p.form;
    shortest = record { spelled = p.shortest.spelled; least = p.shortest.least };
    held = p.held;
    count = p.count;
    fell = p.fell;
  }

  tagged_breaks : {S : Type 0} {sink : Ghosts S} {a b : S} {e : Error} → Breaks (fields_format (number_format k) (variants.parts n)) (Join (Number n) vs) sink a b e → Breaks (tagged_format k variants) (Join (Number n) vs) sink a b e
  tagged_breaks p = record {
    sent = p.sent;
    held = p.held;
    beginning = λ s q. p.beginning s (record { spelled = q.spelled; least = q.least });
    cause = either_part p.cause;
    fell = p.fell;
  }

  -- to a sink
  pub tagged_writes : {S : Type 0} (sink : Ghosts S) (a b : S) (r : Result ℕ Error) → Writes (fields_format (number_format k) (variants.parts n)) (Join (Number n) vs) sink a b r → Writes (tagged_format k variants) (Join (Number n) vs) sink a b r
  tagged_writes sink a b (Ok j) p = tagged_sends p
  tagged_writes sink a b (Err e) p = tagged_breaks p

  -- after what a vector has
  pub tagged_appends : (old new : List ℕ) (r : Result ℕ Error) → AppendsForm (fields_format (number_format k) (variants.parts n)) (Join (Number n) vs) old new r → AppendsForm (tagged_format k variants) (Join (Number n) vs) old new r
  tagged_appends old new (Ok j) p = record {
    form = p.form;
    shortest = record { spelled = p.shortest.spelled; least = p.shortest.least };
    held = p.held;
    count = p.count;
  }
  tagged_appends old new (Err e) p = record {
    kept = p.kept;
    cause = elim (either_cause p.cause) [
      | inl memory ↦ inl memory
      | inr (inl named) ↦ inr (inl named)
      | inr (inr long) ↦ inr (inr (long.0, λ s q. long.1 s (record { spelled = q.spelled; least = q.least })))
    ];
  }

  -- to a vector of its own
  pub tagged_makes : (r : Result (Vec ℕ Global) Error) → Makes (fields_format (number_format k) (variants.parts n)) (Join (Number n) vs) r → Makes (tagged_format k variants) (Join (Number n) vs) r
  tagged_makes (Ok bytes) p = record { spelled = p.spelled; least = p.least }
  tagged_makes (Err e) p = record {
    cause = elim (either_cause p.cause) [
      | inl memory ↦ inl memory
      | inr (inl named) ↦ inr (inl named)
      | inr (inr long) ↦ inr (inr (long.0, λ s q. long.1 s (record { spelled = q.spelled; least = q.least })))
    ];
  }

-- a part alone is written as the product of that part
module _ {f : Format} (l : MeetsLaws f) (v : Tree) where
  pub alone_writes : {S : Type 0} (sink : Ghosts S) (a b : S) (r : Result ℕ Error) → Writes f v sink a b r → Writes (fields_format f nothing_format) (Join v Empty) sink a b r
  alone_writes sink a b (Ok j) p = sends_count (fields_sends p (nothing_sends sink b)) (omega (arith, p.count))
  alone_writes sink a b (Err e) p = fields_breaks_first l nothing_meets p

  pub alone_appends : (old new : List ℕ) (r : Result ℕ Error) → AppendsForm f v old new r → AppendsForm (fields_format f nothing_format) (Join v Empty) old new r
  alone_appends old new (Ok j) p = fields_appended p (nothing_appended new) (omega arith)
  alone_appends old new (Err e) p = first_not_appended l nothing_meets p p.kept
