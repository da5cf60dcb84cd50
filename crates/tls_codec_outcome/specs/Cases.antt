-- An enum by the places of its tag and of what its case has.
use Rattle.std.proofs.Common.{◌≡◌, ◌+◌, ℕ, List, ◌++◌, drop, refl, sym, ap, subst, ◌∙◌, append_assoc}
use Rattle.tls_codec_grammar.specs.Tree.{Join, Number, Tree}
use Rattle.tls_codec_grammar.specs.Format.{Format}
use Rattle.tls_codec_grammar.specs.Grammar.{Reading, number}
use Rattle.tls_codec_grammar.specs.Tagged.{Variants, tagged}
use Rattle.tls_codec_outcome.specs.Ends.{EndsAt, field_ends, splits_at}
use Rattle.tls_codec_outcome.specs.Fields.{IsFieldFrom, bytes_at, span_end}
use Rattle.tls_codec_outcome.specs.declared.fields.Span.{Span}

-- the tag at `from` is that of a case, and what the case has comes after it
pub record IsCaseFrom (k : ℕ) (variants : Variants) (x : List ℕ) (from : ℕ) (tag body : Span) : Type 0 where
  pub tag_number : ℕ
  pub tag_begins : tag.offset ≡ from
  pub tag_spelled : number k Reading (bytes_at from tag.size x) (Number tag_number)
  pub body_is : IsFieldFrom (variants.parts tag_number) x (span_end tag) body

-- the bytes of this format are those of an enum with these cases
abbrev pub IsTagged : ℕ → Variants → Format → Type 0
IsTagged k variants f = (bytes : List ℕ) (v : Tree) → f.spells Reading bytes v → tagged k variants Reading bytes v

abbrev pub HasTagged : ℕ → Variants → Format → Type 0
HasTagged k variants f = (bytes : List ℕ) (v : Tree) → tagged k variants Reading bytes v → f.spells Reading bytes v

pub case_ends : (k : ℕ) (variants : Variants) (f : Format) → HasTagged k variants f → (x : List ℕ) (from : ℕ) (tag body : Span) → IsCaseFrom k variants x from tag body → EndsAt f x from (span_end body)
case_ends k variants f has x from tag body p =
    let q = field_ends (variants.parts p.tag_number) x (span_end tag) body p.body_is in
    let b = q.leaves.begins in
    let front = bytes_at from tag.size x in
    let behind : drop (from + tag.size) x ≡ b.front ++ drop (span_end body) x = subst (λ (n : ℕ). drop (n + tag.size) x ≡ b.front ++ drop (span_end body) x) p.tag_begins b.whole in
    record {
      within = q.within;
      leaves = record {
        value = Join (Number p.tag_number) q.leaves.value;
        begins = record {
          front = front ++ b.front;
          whole = splits_at x from tag.size ∙ ap (λ (u : List ℕ). front ++ u) behind ∙ sym (append_assoc front b.front (drop (span_end body) x));
          spelled = has (front ++ b.front) (Join (Number p.tag_number) q.leaves.value) (record { front = front; rest = b.front; whole = refl; first = p.tag_spelled; second = b.spelled });
        };
      };
    }
