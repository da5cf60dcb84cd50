-- Bytes whose last one that isn't zero is their type.
use Rattle.std.proofs.Common.{◌≡◌, ◌≢◌, ◌<◌, ◌+◌, ℕ, List, ◌∷◌, ◌++◌, length, take, drop, inl, inr, refl, sym, ap, subst, ◌∙◌, arith}
use Rattle.std.specs.Prelude.{◌⊎◌, All, get_or}
use Rattle.std.specs.List.{AllWithin}
use Rattle.std.proofs.lemmas.List.{take-append-drop, drop_more, get_or-drop, length-drop}
use Rattle.std.proofs.lemmas.List.Elements.{All-same}
use Rattle.tls_codec_wire.specs.Digits.{AreBytes}
use Rattle.tls_codec_wire.specs.declared.error.Error.{Error}
use Rattle.tls_codec_wire.specs.declared.error.Error.TheVariants.{OutOfMemory}
use Rattle.tls_codec_grammar.specs.Tree.{Tree, Number, Join, number_trees}
use Rattle.tls_codec_grammar.specs.Grammar.{Reading}
use Rattle.tls_codec_grammar.specs.Format.{Format}
use Rattle.tls_codec_grammar.specs.Decoding.{NoneSpelled, RefusesWhole}
use Rattle.tls_codec_grammar.proofs.ByteContents.{bytes_content}
use Rattle.tls_codec_cases.specs.Inner.{EndsIn, inner_format}
use Rattle.tls_codec_cases.specs.InnerLaws.{last_same, none_other}

-- where that byte is
pub ends_at : (xs : List ℕ) (i : ℕ) {front rest b zeros : List ℕ} → i < length xs → get_or xs i 0 ≢ 0 → AllWithin (λ b. b ≡ 0) xs (i + 1) (length xs)
    → front ≡ take i xs → rest ≡ drop i xs → b ≡ take 1 rest → zeros ≡ drop 1 rest → EndsIn xs front b (length zeros)
ends_at xs i {front} {rest} {b} {zeros} inside some after f r k z =
    let here : rest ≡ get_or xs i 0 ∷ drop (i + 1) xs = r ∙ drop_more xs i 0 inside in
    let behind : zeros ≡ drop (i + 1) xs = z ∙ ap (drop 1) here in
    record {
      zeros = zeros;
      whole = sym (take-append-drop i xs) ∙ ap (λ (u : List ℕ). u ++ drop i xs) (sym f) ∙ ap (λ (u : List ℕ). front ++ u) (sym r ∙ sym (take-append-drop 1 rest) ∙ ap (λ (u : List ℕ). u ++ drop 1 rest) (sym k) ∙ ap (λ (u : List ℕ). b ++ u) (sym z));
      nonzero = record { byte = get_or xs i 0; is = k ∙ ap (take 1) here; some = some };
      padding = (
        refl,
        All-same (λ b. b ≡ 0) zeros (drop (i + 1) xs) behind (λ k d h.
            get_or-drop (i + 1) xs k d ∙ after (i + 1 + k) d (omega arith) (omega (arith, h, length-drop (i + 1) xs))),
      );
    }

-- ---- what such bytes spell

module _ (kind : Format) {x content b : List ℕ} {n : ℕ} (ends : EndsIn x content b n) where
  pub inner_read : {t : Tree} → AreBytes content → kind.spells Reading b t → (inner_format kind).spells Reading x (Join (number_trees content) (Join t (Number n)))
  inner_read {t} bytes p = record {
    front = content;
    rest = b ++ ends.zeros;
    whole = ends.whole;
    first = bytes_content Reading content bytes;
    second = record { front = b; rest = ends.zeros; whole = refl; first = (p, ends.nonzero); second = ends.padding };
  }

  -- nothing, if the byte of the type spells none
  pub none_of_type : NoneSpelled kind.spells b → NoneSpelled (inner_format kind).spells x
  none_of_type none (Join v (Join t (Number m))) p =
      let same = last_same content p.front _ _ ends.nonzero p.second.first.1 ends.padding.1 p.second.second.1 (sym ends.whole ∙ p.whole ∙ ap (λ (u : List ℕ). p.front ++ u) p.second.whole) in
      none t (subst (λ (u : List ℕ). kind.spells Reading u t) (sym same.1) p.second.first.0)
  none_of_type none _ p = absurd search

  pub type_refused : {e : Error} → RefusesWhole kind.spells kind.lean b e → NoneSpelled (inner_format kind).spells x ⊎ (e ≡ OutOfMemory)
  type_refused r = elim r.cause [
    | inl none ↦ inl (none_of_type none)
    | inr out ↦ inr out
  ]

-- zeros alone spell nothing
pub none_of_zeros : (kind : Format) (x : List ℕ) → All (λ b. b ≡ 0) x → NoneSpelled (inner_format kind).spells x
none_of_zeros kind x all (Join v (Join t (Number m))) p =
    let one = p.second.first.1 in
    let whole : x ≡ p.front ++ one.byte ∷ p.second.rest = p.whole ∙ ap (λ (u : List ℕ). p.front ++ u) (p.second.whole ∙ ap (λ (u : List ℕ). u ++ p.second.rest) one.is) in
    one.some (none_other p.front one.byte p.second.rest (subst (All (λ b. b ≡ 0)) whole all))
none_of_zeros kind x all _ p = absurd search
