-- A part, and two after it that its value decides, by their places.
use Rattle.std.proofs.Common.{◌≡◌, ◌+◌, ℕ, List, ◌++◌, drop, refl, sym, ap, subst, ◌∙◌, append_assoc}
use Rattle.tls_codec_grammar.specs.Tree.{Join, Tree}
use Rattle.tls_codec_grammar.specs.Contexts.{then_format}
use Rattle.tls_codec_grammar.specs.Format.{Format, pair_format}
use Rattle.tls_codec_grammar.specs.Grammar.{Reading}
use Rattle.tls_codec_outcome.specs.Ends.{EndsAt, field_ends, pair_ends, splits_at}
use Rattle.tls_codec_outcome.specs.Fields.{IsFieldFrom, bytes_at, span_end}
use Rattle.tls_codec_outcome.specs.declared.fields.Span.{Span}

-- the part at `from` has a value, and the two after it are as this value decides
pub record AreDecided (first : Format) (second third : Tree → Format) (x : List ℕ) (from : ℕ) (a b c : Span) : Type 0 where
  pub value : Tree
  pub first_begins : a.offset ≡ from
  pub first_spelled : first.spells Reading (bytes_at from a.size x) value
  pub second_is : IsFieldFrom (second value) x (span_end a) b
  pub third_is : IsFieldFrom (third value) x (span_end b) c

pub decided_ends : (first : Format) (second third : Tree → Format) (x : List ℕ) (from : ℕ) (a b c : Span) → AreDecided first second third x from a b c → EndsAt (then_format first (λ v. pair_format (second v) (third v))) x from (span_end c)
decided_ends first second third x from a b c p =
    let q = pair_ends (second p.value) (third p.value) x (span_end a) (span_end b) (span_end c) (field_ends (second p.value) x (span_end a) b p.second_is) (field_ends (third p.value) x (span_end b) c p.third_is) in
    let r = q.leaves.begins in
    let front = bytes_at from a.size x in
    let behind : drop (from + a.size) x ≡ r.front ++ drop (span_end c) x = subst (λ (n : ℕ). drop (n + a.size) x ≡ r.front ++ drop (span_end c) x) p.first_begins r.whole in
    record {
      within = q.within;
      leaves = record {
        value = Join p.value q.leaves.value;
        begins = record {
          front = front ++ r.front;
          whole = splits_at x from a.size ∙ ap (λ (u : List ℕ). front ++ u) behind ∙ sym (append_assoc front r.front (drop (span_end c) x));
          spelled = record { front = front; rest = r.front; whole = refl; first = p.first_spelled; second = r.spelled };
        };
      };
    }
