-- The spellings of a text are those of its bytes, which are UTF-8.
use Rattle.std.proofs.Common.{ℕ, List, Result, Ok, Err, Vec, Global, IsUtf8, inl, inr, sym, subst, arith}
use Rattle.tls_codec_wire.specs.declared.error.Error.{Error}
use Rattle.tls_codec_grammar.specs.Tree.{Tree, number_trees}
use Rattle.tls_codec_grammar.specs.Grammar.{Direction, Writing, bytes, text}
use Rattle.tls_codec_grammar.specs.Shortest.{IsShortest}
use Rattle.tls_codec_wire.specs.declared.device.Sink.{Ghosts}
use Rattle.tls_codec_grammar.specs.Format.{bytes_format, text_format}
use Rattle.tls_codec_grammar.specs.Encoding.{AppendsForm, Breaks, Makes, Sends, Writes}
use Rattle.tls_codec_grammar.proofs.Appending.{part_refused}
use Rattle.tls_codec_grammar.proofs.ByteContents.{content_same_bytes}

pub text_to_bytes : (d : Direction) (v : Tree) (s : List ℕ) → text d s v → bytes d s v
text_to_bytes d v s p = record { count = p.count; inside = p.inside; whole = p.whole; counts = p.counts; is_inside = p.is_inside.0 }

pub text_from_bytes : (d : Direction) (c s : List ℕ) → IsUtf8 c → bytes d s (number_trees c) → text d s (number_trees c)
text_from_bytes d c s valid p =
    let same = content_same_bytes d p.inside c p.is_inside in
    record { count = p.count; inside = p.inside; whole = p.whole; counts = p.counts; is_inside = (p.is_inside, subst IsUtf8 (sym same) valid) }

module _ (c : List ℕ) (valid : IsUtf8 c) where
  -- so the shortest forms agree
  pub text_form : (s : List ℕ) → IsShortest bytes s (number_trees c) → IsShortest text s (number_trees c)
  text_form s p = record { spelled = text_from_bytes Writing c s valid p.spelled; least = λ t q. p.least t (text_to_bytes Writing (number_trees c) t q) }

  bytes_form : (s : List ℕ) → IsShortest text s (number_trees c) → IsShortest bytes s (number_trees c)
  bytes_form s p = record { spelled = text_to_bytes Writing (number_trees c) s p.spelled; least = λ t q. p.least t (text_from_bytes Writing c t valid q) }

  module _ {S : Type 0} {sink : Ghosts S} {old new : S} where
    pub text_sends : {n : ℕ} → Sends bytes_format (number_trees c) sink old new n → Sends text_format (number_trees c) sink old new n
    text_sends {n} p = record { form = p.form; shortest = text_form p.form p.shortest; held = p.held; count = p.count; fell = p.fell }

    pub text_breaks : {e : Error} → Breaks bytes_format (number_trees c) sink old new e → Breaks text_format (number_trees c) sink old new e
    text_breaks {e} p = record { sent = p.sent; held = p.held; beginning = λ s q. p.beginning s (bytes_form s q); cause = p.cause; fell = p.fell }

  -- what is written of bytes is written of the text
  pub text_writes : {S : Type 0} (sink : Ghosts S) (old new : S) (result : Result ℕ Error) → Writes bytes_format (number_trees c) sink old new result → Writes text_format (number_trees c) sink old new result
  text_writes sink old new (Ok n) p = text_sends p
  text_writes sink old new (Err e) p = text_breaks p

  -- what is appended too
  pub text_appends : (old new : List ℕ) (result : Result ℕ Error) → AppendsForm bytes_format (number_trees c) old new result → AppendsForm text_format (number_trees c) old new result
  text_appends old new (Ok n) p = record { form = p.form; shortest = text_form p.form p.shortest; held = p.held; count = p.count }
  text_appends old new (Err e) p = part_refused text_format (number_trees c) old new p p.kept (λ named. named) (λ s q. (s, bytes_form s q, omega arith))

  pub text_makes : (result : Result (Vec ℕ Global) Error) → Makes bytes_format (number_trees c) result → Makes text_format (number_trees c) result
  text_makes (Ok form) p = text_form form.items p
  text_makes (Err e) p = record {
    cause = elim p.cause [
      | inl out ↦ inl out
      | inr (inl named) ↦ inr (inl named)
      | inr (inr long) ↦ inr (inr (long.0, λ s q. long.1 s (bytes_form s q)))
    ];
  }
