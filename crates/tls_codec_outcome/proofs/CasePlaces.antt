-- The places of a tag and of what its case has, from that of the enum.
use Rattle.std.proofs.Common.{◌≡◌, ℕ, ◌≤◌, ◌+◌, ◌-◌, List, ◌++◌, length, take, drop, sym, ap, subst, ◌∙◌, arith, append_assoc, length-append}
use Rattle.std.proofs.Math.Seq.{take-append_seam, drop-append_seam}
use Rattle.std.proofs.lemmas.List.{drop-drop, length-drop}
use Rattle.tls_codec_grammar.specs.Tree.{Empty, Join, Number, Tree}
use Rattle.tls_codec_grammar.specs.Format.{Format}
use Rattle.tls_codec_grammar.specs.Grammar.{Reading, number}
use Rattle.tls_codec_grammar.specs.Tagged.{Variants, tagged}
use Rattle.tls_codec_outcome.specs.Cases.{IsCaseFrom, IsTagged}
use Rattle.tls_codec_outcome.specs.Fields.{IsFieldFrom, bytes_at, span_end}
use Rattle.tls_codec_outcome.specs.declared.fields.Span.{Span}
use Rattle.tls_codec_outcome.specs.Ends.{splits_at}

module _ (k : ℕ) (variants : Variants) (x : List ℕ) (from size : ℕ) (tag body : Span) (within : from + size ≤ length x)
    (tag_offset : tag.offset ≡ from) (tag_size : tag.size ≡ k) (body_offset : from + k ≤ length x → body.offset ≡ from + k) (body_size : body.size ≡ size - k) where
  found : (v : Tree) → tagged k variants Reading (bytes_at from size x) v → drop from x ≡ bytes_at from size x ++ drop (from + size) x → IsCaseFrom k variants x from tag body
  found (Join (Number n) vs) p whole =
      let tail = drop (from + size) x in
      let all : drop from x ≡ p.front ++ (p.rest ++ tail) = whole ∙ ap (λ (u : List ℕ). u ++ tail) p.whole ∙ append_assoc p.front p.rest tail in
      let wide : length p.front ≡ k = p.first.width in
      let sizes : length (drop from x) ≡ length p.front + length (p.rest ++ tail) = ap length all ∙ length-append p.front (p.rest ++ tail) in
      let rest_size : length p.rest ≡ size - k = omega (arith, sizes, length-append p.rest tail, length-drop from x, length-drop (from + size) x, within, wide) in
      let first : bytes_at from tag.size x ≡ p.front = ap (λ (m : ℕ). bytes_at from m x) (tag_size ∙ sym wide) ∙ ap (λ (u : List ℕ). take (length p.front) u) all ∙ take-append_seam p.front (p.rest ++ tail) in
      let behind : drop (from + k) x ≡ p.rest ++ tail = sym (drop-drop k from x) ∙ ap (λ (m : ℕ). drop m (drop from x)) (sym wide) ∙ ap (λ (u : List ℕ). drop (length p.front) u) all ∙ drop-append_seam p.front (p.rest ++ tail) in
      let fits : from + k ≤ length x = omega (arith, within, sizes, wide, length-append p.rest tail, length-drop from x, length-drop (from + size) x) in
      let place : span_end tag ≡ from + k = omega (arith, tag_offset, tag_size) in
      let second : bytes_at (span_end tag) body.size x ≡ p.rest = ap (λ (m : ℕ). bytes_at m body.size x) place ∙ ap (λ (m : ℕ). take m (drop (from + k) x)) (body_size ∙ sym rest_size) ∙ ap (λ (u : List ℕ). take (length p.rest) u) behind ∙ take-append_seam p.rest tail in
      record {
        tag_number = n;
        tag_begins = tag_offset;
        tag_spelled = subst (λ (u : List ℕ). number k Reading u (Number n)) (sym first) p.first;
        body_is = (
          omega (arith, body_offset, place),
          record {
            within = omega (arith, within, sizes, wide, place, body_size, length-append p.rest tail, length-drop from x, length-drop (from + size) x);
            spelled = (vs, subst (λ (u : List ℕ). (variants.parts n).spells Reading u vs) (sym second) p.second);
          },
        );
      }
  found (Join Empty vs) p whole = absurd p
  found (Join (Join v ws) vs) p whole = absurd p
  found (Number n) p whole = absurd p
  found Empty p whole = absurd p

-- of an enum at a place
pub case_found : (k : ℕ) (variants : Variants) (f : Format) → IsTagged k variants f → (x : List ℕ) (from : ℕ) (whole tag body : Span) → IsFieldFrom f x from whole
    → tag.offset ≡ from → tag.size ≡ k → (from + k ≤ length x → body.offset ≡ from + k) → body.size ≡ whole.size - k → IsCaseFrom k variants x from tag body
case_found k variants f is x from whole tag body p tag_is wide place count =
    found k variants x from whole.size tag body p.1.within tag_is wide place count p.1.spelled.0 (is (bytes_at from whole.size x) p.1.spelled.0 p.1.spelled.1) (splits_at x from whole.size)
