-- Where the encoding that begins at a place ends, by its parts.
use Rattle.std.proofs.Common.{◌≡◌, ◌≤◌, ◌+◌, ◌-◌, ℕ, List, [], ◌++◌, length, drop, refl, sym, ap, subst, ◌∙◌, arith, append_assoc}
use Rattle.std.proofs.lemmas.List.{drop-drop, take-append-drop}
use Rattle.tls_codec_grammar.specs.Tree.{Empty, Join, number_trees}
use Rattle.tls_codec_grammar.specs.Field.{Field}
use Rattle.tls_codec_grammar.specs.Format.{Format, counted_bytes_format, fields_format, nothing_format}
use Rattle.tls_codec_validate.specs.Validated.{BeginsLeaving}
use Rattle.tls_codec_outcome.specs.Fields.{IsContent, IsContentFrom, IsField, IsFieldFrom, bytes_at, span_end}
use Rattle.tls_codec_outcome.specs.declared.fields.Span.{Span}

-- an encoding begins at `from`, and what is after it begins at `end`
pub record EndsAt (f : Format) (x : List ℕ) (from end : ℕ) : Type 0 where
  pub within : end ≤ length x
  pub leaves : BeginsLeaving f.spells (drop from x) (drop end x)

-- ---- one part

-- the bytes at a place, and what is after them
pub splits_at : (x : List ℕ) (from size : ℕ) → drop from x ≡ bytes_at from size x ++ drop (from + size) x
splits_at x from size = sym (take-append-drop size (drop from x)) ∙ ap (λ (u : List ℕ). bytes_at from size x ++ u) (drop-drop size from x)

-- the bytes at a place begin with a field, and what is after it is left
pub leaves_after : (f : Format) (x : List ℕ) (from size : ℕ) → IsField f x from size → BeginsLeaving f.spells (drop from x) (drop (from + size) x)
leaves_after f x from size p = record {
  value = p.spelled.0;
  begins = record {
    front = bytes_at from size x;
    whole = splits_at x from size;
    spelled = p.spelled.1;
  };
}

field_ends_after : (f : Format) (x : List ℕ) (from size : ℕ) → IsField f x from size → EndsAt f x from (from + size)
field_ends_after f x from size p = record { within = p.within; leaves = leaves_after f x from size p }

pub field_ends : (f : Format) (x : List ℕ) (from : ℕ) (span : Span) → IsFieldFrom f x from span → EndsAt f x from (span_end span)
field_ends f x from span p = subst (λ (n : ℕ). EndsAt f x from (n + span.size)) (sym p.0) (field_ends_after f x from span.size p.1)

-- bytes after a length are a field, with the length
content_field : (field : Field) (x : List ℕ) (from offset size : ℕ) → IsContent field x from offset size → IsField (counted_bytes_format field) x from (offset + size - from)
content_field field x from offset size p = record {
  within = omega (arith, p.after, p.within);
  spelled = (number_trees (bytes_at offset size x), p.spelled);
}

pub content_ends : (field : Field) (x : List ℕ) (from : ℕ) (span : Span) → IsContentFrom field x from span → EndsAt (counted_bytes_format field) x from (span_end span)
content_ends field x from span p =
    let end : from + (span.offset + span.size - from) ≡ span.offset + span.size = omega (arith, p.after) in
    subst (λ (n : ℕ). EndsAt (counted_bytes_format field) x from n) end
    (field_ends_after (counted_bytes_format field) x from (span.offset + span.size - from) (content_field field x from span.offset span.size p))

-- ---- several

pub nothing_ends : (x : List ℕ) (end : ℕ) → end ≤ length x → EndsAt nothing_format x end end
nothing_ends x end within = record {
  within = within;
  leaves = record { value = Empty; begins = record { front = []; whole = refl; spelled = refl } };
}

pub fields_end : (first others : Format) (x : List ℕ) (from middle end : ℕ) → EndsAt first x from middle → EndsAt others x middle end → EndsAt (fields_format first others) x from end
fields_end first others x from middle end p q =
    let b = p.leaves.begins in
    let c = q.leaves.begins in
    record {
      within = q.within;
      leaves = record {
        value = Join p.leaves.value q.leaves.value;
        begins = record {
          front = b.front ++ c.front;
          whole = b.whole ∙ ap (λ (u : List ℕ). b.front ++ u) c.whole ∙ sym (append_assoc b.front c.front (drop end x));
          spelled = record { front = b.front; rest = c.front; whole = refl; first = b.spelled; second = c.spelled };
        };
      };
    }

pub pair_ends : (first second : Format) (x : List ℕ) (from middle end : ℕ) → EndsAt first x from middle → EndsAt second x middle end → EndsAt (fields_format first (fields_format second nothing_format)) x from end
pair_ends first second x from middle end p q =
    fields_end first (fields_format second nothing_format) x from middle end p (fields_end second nothing_format x middle end end q (nothing_ends x end q.within))

pub triple_ends : (first second third : Format) (x : List ℕ) (from middle behind end : ℕ) → EndsAt first x from middle → EndsAt second x middle behind → EndsAt third x behind end
    → EndsAt (fields_format first (fields_format second (fields_format third nothing_format))) x from end
triple_ends first second third x from middle behind end p q r =
    fields_end first (fields_format second (fields_format third nothing_format)) x from middle end p (pair_ends second third x middle behind end q r)
