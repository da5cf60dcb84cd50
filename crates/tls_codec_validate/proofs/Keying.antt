-- Keys that are found in bytes.
use Rattle.std.proofs.Common.{◌≡◌, ℕ, List, ◌++◌, sym, ap, ◌∙◌, append_assoc}
use Rattle.tls_codec_grammar.specs.Tree.{Tree, Number, Join}
use Rattle.tls_codec_grammar.specs.Grammar.{Direction, Grammar, Reading, number}
use Rattle.tls_codec_grammar.specs.Format.{number_format}
use Rattle.tls_codec_grammar.specs.Lawful.{MeetsLaws}
use Rattle.tls_codec_grammar.specs.Decoding.{Begins, NoneBegins}
use Rattle.tls_codec_grammar.specs.Tagged.{Variants, tagged}
use Rattle.tls_codec_cases.specs.Chosen.{number_of}
use Rattle.tls_codec_validate.specs.Keys.{BeginsKeyed, KeyOf}
use Rattle.tls_codec_validate.specs.Validated.{BeginsLeaving}

-- a value begins the bytes that has this key
pub with_key : {K : Type 0} {spells : Grammar} (is_key : KeyOf K) {x : List ℕ} {v : Tree} (key : K) {rest : List ℕ} → Begins spells x v rest → is_key key v → BeginsKeyed spells is_key x key rest
with_key is_key {v = v} key b k = record { value = v; begins = b; keyed = k }

-- an enum whose spellings begin with a tag
module _ {spells : Grammar} {k : ℕ} (variants : Variants) (is_tagged : (d : Direction) (bytes : List ℕ) (v : Tree) → spells d bytes v → tagged k variants d bytes v) {x rest : List ℕ} where
  -- the tag that begins the bytes is that of the value
  pub tag_is_key : (told : Tree → ℕ) → ((d : Direction) (bytes : List ℕ) (tag : ℕ) (parts : Tree) → spells d bytes (Join (Number tag) parts) → told (Join (Number tag) parts) ≡ tag) → MeetsLaws (number_format k) → {tag : ℕ} {mid : List ℕ} → Begins (number k) x (Number tag) mid → BeginsLeaving spells x rest
      → BeginsKeyed spells (λ n c. n ≡ told c) x tag rest
  tag_is_key told is_told l {tag} {mid} p q = found q.value q.begins (is_tagged Reading q.begins.front q.value q.begins.spelled) where
    found : (v : Tree) (b : Begins spells x v rest) → tagged k variants Reading b.front v → BeginsKeyed spells (λ n c. n ≡ told c) x tag rest
    found (Join (Number n) vs) b s =
        let whole = sym p.whole ∙ b.whole ∙ ap (λ (u : List ℕ). u ++ rest) s.whole ∙ append_assoc s.front s.rest rest in
        let same = (l.spelled.one p.front s.front mid (s.rest ++ rest) (Number tag) (Number n) p.spelled s.first whole).1 in
        record { value = Join (Number n) vs; begins = b; keyed = ap number_of same ∙ sym (is_told Reading b.front n vs b.spelled) }
    found _ b s = absurd s

  -- there is a tag
  pub tag_is_there : BeginsLeaving spells x rest → NoneBegins (number k) x → ⊥
  tag_is_there q none = there q.value q.begins (is_tagged Reading q.begins.front q.value q.begins.spelled) where
    there : (v : Tree) (b : Begins spells x v rest) → tagged k variants Reading b.front v → ⊥
    there (Join (Number n) vs) b s = none (Number n) (s.rest ++ rest) (record {
      front = s.front;
      whole = b.whole ∙ ap (λ (u : List ℕ). u ++ rest) s.whole ∙ append_assoc s.front s.rest rest;
      spelled = s.first;
    })
    there _ b s = absurd s
