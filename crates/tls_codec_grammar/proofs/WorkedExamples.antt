-- The longer proofs of the worked examples.
use Rattle.std.proofs.Common.{rules, ◌≡◌, ℕ, ◌+◌, ◌*◌, ◌^◌, ◌<◌, List, [], ◌∷◌, ◌++◌, length, false, true, refl, sym, ap, subst, ◌∙◌, inl, inr, arith, length-append}
use Rattle.std.proofs.lemmas.Bool.{lt-ltb}
use Rattle.std.proofs.Math.Utf8.{encode}
use Rattle.std.specs.Str.{IsUtf8, is_utf8, chars}
use Rattle.std.proofs.lemmas.Str.{is_utf8-from_IsUtf8}
use Rattle.tls_codec_wire.specs.Digits.{Digits}
use Rattle.tls_codec_wire.specs.Varint.{LaidOut, SpelledBelow, VectorLength}
use Rattle.tls_codec_wire.proofs.VarintReads.{one_byte_spells}
use Rattle.tls_codec_wire.specs.VarintCalls.{IsWideOrGreat}
use Rattle.tls_codec_wire.specs.declared.error.Error.TheVariants.{InvalidVectorLength}
use Rattle.tls_codec_grammar.specs.Tree.{Tree, Number, Empty, Join}
use Rattle.tls_codec_grammar.specs.Grammar.{Direction, Reading, Writing, number, option, content, fixed_list, list, text, nothing}
use Rattle.tls_codec_grammar.specs.Format.{fields_format, nothing_format, number_format}
use Rattle.tls_codec_grammar.specs.Lawful.{IsLengthField}
use Rattle.tls_codec_grammar.specs.Tagged.{no_variant, tagged, variant}
use Rattle.tls_codec_grammar.specs.Shortest.{IsShortest}
use Rattle.tls_codec_grammar.specs.laws.NumberLaws.{digits_one}
use Rattle.tls_codec_grammar.specs.laws.AloneLaws.{alone_shortest}
use Rattle.tls_codec_grammar.specs.laws.VarintLaws.{below_none}
use Rattle.tls_codec_grammar.specs.laws.ListLaws.{bytes_lawful}
use Rattle.tls_codec_grammar.specs.laws.FormatLaws.{list_meets, nothing_meets}

-- 40 and a byte below 40 are laid out as that byte, which needs one byte alone
wide : (limit b : ℕ) (rest : List ℕ) → b < 64 → IsWideOrGreat limit (0x40 ∷ b ∷ rest)
wide limit b rest small = record {
  front = 0x40 ∷ b ∷ [];
  rest = rest;
  number = b;
  whole = refl;
  laid_out = (1, 0, record { top = omega arith; low = omega arith; first = refl; width = refl; bytes = (omega arith, tt); number = omega arith });
  cause = inl (rw (lt-ltb b 64 small) (omega arith));
}

-- so they are no number below a limit
pub no_wide_number : (limit b n : ℕ) → b < 64 → SpelledBelow limit (0x40 ∷ b ∷ []) n → ⊥
no_wide_number limit b n small p = below_none limit (0x40 ∷ b ∷ []) InvalidVectorLength (wide limit b [] small) n [] (record { front = 0x40 ∷ b ∷ []; whole = refl; spelled = p })

-- c0 00 00 00 40 00 00 00 are laid out as 2 ^ 30
pub thirty_one_bits : LaidOut (0xc0 ∷ 0 ∷ 0 ∷ 0 ∷ 0x40 ∷ 0 ∷ 0 ∷ 0 ∷ []) 1073741824
thirty_one_bits = (3, 0, record { top = omega arith; low = omega arith; first = refl; width = refl; bytes = search rules; number = refl })

-- which is too great for a length
pub no_great_length : (n : ℕ) → VectorLength (0xc0 ∷ 0 ∷ 0 ∷ 0 ∷ 0x40 ∷ 0 ∷ 0 ∷ 0 ∷ []) n → ⊥
no_great_length n p = below_none (2 ^ 30) (0xc0 ∷ 0 ∷ 0 ∷ 0 ∷ 0x40 ∷ 0 ∷ 0 ∷ 0 ∷ []) InvalidVectorLength (record {
  front = 0xc0 ∷ 0 ∷ 0 ∷ 0 ∷ 0x40 ∷ 0 ∷ 0 ∷ 0 ∷ [];
  rest = [];
  number = 1073741824;
  whole = refl;
  laid_out = thirty_one_bits;
  cause = inr (omega arith);
}) n [] (record { front = 0xc0 ∷ 0 ∷ 0 ∷ 0 ∷ 0x40 ∷ 0 ∷ 0 ∷ 0 ∷ []; whole = refl; spelled = p })

-- in any width 0 would have two spellings, and a length field allows one at most
pub no_field_of_any_width : (width : ℕ → ℕ) → IsLengthField LaidOut width → ⊥
no_field_of_any_width width l =
    let one : LaidOut (0 ∷ []) 0 = (0, 0, record { top = omega arith; low = omega arith; first = refl; width = refl; bytes = tt; number = refl }) in
    let two : LaidOut (0x40 ∷ 0x00 ∷ []) 0 = (1, 0, record { top = omega arith; low = omega arith; first = refl; width = refl; bytes = (omega arith, tt); number = refl }) in
    let same : 0 ∷ [] ≡ 0x40 ∷ 0x00 ∷ [] = l.alone (0 ∷ []) (0x40 ∷ 0x00 ∷ []) 0 one two in
    let lengths : ◌≡◌ {A = ℕ} 1 2 = ap (length {A = ℕ}) same in
    absurd (omega (arith, lengths))

-- no list begins with a length that is wider than it needs
pub no_wide_list : (d : Direction) (v : Tree) → list (number 1) d (0x40 ∷ 0x01 ∷ 0xaa ∷ []) v → ⊥
no_wide_list d v p = below_none (2 ^ 30) (0x40 ∷ 0x01 ∷ 0xaa ∷ []) InvalidVectorLength (wide (2 ^ 30) 1 (0xaa ∷ []) (omega arith)) (length p.inside) p.inside (record { front = p.count; whole = p.whole; spelled = p.counts })

-- a payload of two bytes has one spelling
pub some_spelled_once : (s : List ℕ) → option (number 2) Writing s (Join (Number 7) Empty) → s ≡ 1 ∷ 0 ∷ 7 ∷ []
some_spelled_once s p =
    let e = digits_one 2 p.0 (0 ∷ 7 ∷ []) 7 p.2 (record { width = refl; bytes = (omega arith, (omega arith, tt)); number = refl }) in
    p.1 ∙ ap (λ (u : List ℕ). 1 ∷ u) e

-- no variant has the tag 3
pub no_other_tag : (d : Direction) (s : List ℕ) (v : Tree) → tagged 1 (variant 2 (fields_format (number_format 2) nothing_format) no_variant) d (3 ∷ s) v → ⊥
no_other_tag d s (Join (Number tag) vs) p = go p.front p.whole p.first
  where
    other : tag ≡ 3 → ⊥
    other three = subst (λ (m : ℕ). ((variant 2 (fields_format (number_format 2) nothing_format) no_variant).parts m).spells d p.rest vs) three p.second

    go : (front : List ℕ) → 3 ∷ s ≡ front ++ p.rest → Digits 1 front tag → ⊥
    go [] w c = absurd (omega (arith, c.width))
    go (b ∷ []) w c =
        let three : 3 ≡ b = cc in
        other (omega (arith, three, c.number))
    go (b ∷ c1 ∷ cs) w c = absurd (omega (arith, c.width))
no_other_tag d s _ p = absurd search

-- a content of two-byte numbers has evenly many bytes
pub content_even : (d : Direction) (c : List ℕ) (v : Tree) → content (number 2) d c v → (m : ℕ) × (length c ≡ 2 * m)
content_even d c Empty p = (0, ap length p)
content_even d c (Join (Number n) vs) p =
    let h = content_even d p.rest vs p.second in
    (h.0 + 1, omega (arith, ap length p.whole, length-append p.front p.rest, p.first.0.width, h.1))
content_even d c _ p = absurd search

-- so no list of them has a length of 3
pub no_half_element : (d : Direction) (front rest : List ℕ) (v : Tree) → fixed_list 1 (number 2) d front v → front ++ rest ≡ 3 ∷ 0 ∷ 1 ∷ 0 ∷ 2 ∷ [] → ⊥
no_half_element d front rest v p e = go p.count p.whole p.counts
  where
    go : (count : List ℕ) → front ≡ count ++ p.inside → Digits 1 count (length p.inside) → ⊥
    go [] w c = absurd (omega (arith, c.width))
    go (b ∷ []) w c =
        let whole : b ∷ (p.inside ++ rest) ≡ 3 ∷ 0 ∷ 1 ∷ 0 ∷ 2 ∷ [] = sym (ap (λ (u : List ℕ). u ++ rest) w) ∙ e in
        let three : b ≡ 3 = cc in
        let even = content_even d p.inside v p.is_inside in
        omega (arith, three, c.number, even.1)
    go (b ∷ c1 ∷ cs) w c = absurd (omega (arith, c.width))

-- c3 bc is UTF-8, of one character
pub two_byte_character : IsUtf8 (0xc3 ∷ 0xbc ∷ [])
unfolding encode
two_byte_character = (0xfc ∷ [], (refl, refl))

-- ed a0 80 is not UTF-8
not_utf8 : IsUtf8 (0xed ∷ 0xa0 ∷ 0x80 ∷ []) → ⊥
unfolding is_utf8 chars
not_utf8 p = let e : false ≡ true = is_utf8-from_IsUtf8 (0xed ∷ 0xa0 ∷ 0x80 ∷ []) p in absurd cc

-- so it is no text
pub surrogate_is_no_text : (d : Direction) (v : Tree) → text d (3 ∷ 0xed ∷ 0xa0 ∷ 0x80 ∷ []) v → ⊥
surrogate_is_no_text d v p = go p.count p.whole p.counts
  where
    go : (count : List ℕ) → 3 ∷ 0xed ∷ 0xa0 ∷ 0x80 ∷ [] ≡ count ++ p.inside → VectorLength count (length p.inside) → ⊥
    go [] w c = absurd c.laid_out
    go (b ∷ []) w c = let same : 0xed ∷ 0xa0 ∷ 0x80 ∷ [] ≡ p.inside = cc in not_utf8 (subst IsUtf8 (sym same) p.is_inside.1)
    go (b ∷ c1 ∷ cs) w c =
        let three : 3 ≡ b = cc in
        let by = c.laid_out.2 in
        let top : c.laid_out.0 ≡ 0 = omega (arith, three, by.first, by.low) in
        absurd (omega (arith, by.width, ap (λ (u : ℕ). 2 ^ u) top))

-- the shortest form of the list of the byte aa
pub shortest_list : IsShortest (list (number 1)) (1 ∷ 0xaa ∷ []) (Join (Number 0xaa) Empty)
shortest_list =
    let inside : content (number 1) Writing (0xaa ∷ []) (Join (Number 0xaa) Empty) = record { front = 0xaa ∷ []; rest = []; whole = refl; first = (record { width = refl; bytes = (omega arith, tt); number = refl }, tt); second = refl } in
    alone_shortest bytes_lawful (1 ∷ 0xaa ∷ []) (Join (Number 0xaa) Empty) (record { count = 1 ∷ []; inside = 0xaa ∷ []; whole = refl; counts = one_byte_spells (2 ^ 30) 1 (omega arith) (omega arith); is_inside = inside })

-- the shortest form of the list of one value with no parts
pub shortest_list_of_nothing : IsShortest (list nothing) (0 ∷ []) (Join Empty Empty)
shortest_list_of_nothing =
    let inside : content nothing Writing [] (Join Empty Empty) = record { front = []; rest = []; whole = refl; first = (refl, tt); second = refl } in
    alone_shortest (list_meets nothing_meets).spelled (0 ∷ []) (Join Empty Empty) (record { count = 0 ∷ []; inside = []; whole = refl; counts = one_byte_spells (2 ^ 30) 0 (omega arith) (omega arith); is_inside = inside })

-- which has no reading spelling
pub nothing_is_no_element : (s : List ℕ) → list nothing Reading s (Join Empty Empty) → ⊥
nothing_is_no_element s p = absurd (omega (arith, ap length p.is_inside.first.0, p.is_inside.first.1))
