-- The laws of formats, from those of their parts.
use Rattle.std.proofs.Common.{◌≡◌, ◌≢◌, ℕ, List, ◌^◌, ◌+◌, ◌<◌, ◌≤◌, length, codes, refl, ap, inl, inr, sym, subst, ◌∙◌, arith, length-append}
use Rattle.tls_codec_wire.specs.Digits.{Digits}
use Rattle.tls_codec_wire.specs.Numbers.{NoNumberBegins}
use Rattle.tls_codec_wire.specs.declared.error.Error.{Error}
use Rattle.tls_codec_wire.specs.declared.error.Error.TheVariants.{DecodingError, EndOfStream, InvalidVectorLength, OutOfMemory, TrailingData}
use Rattle.tls_codec_grammar.specs.Tree.{Tree, Number, Empty, Join}
use Rattle.tls_codec_grammar.specs.Grammar.{Writing, Grammar, option, fields, content}
use Rattle.tls_codec_grammar.specs.Shortest.{HasNoSpelling}
use Rattle.tls_codec_grammar.specs.Announced.{capped, content_length, content_sum}
use Rattle.tls_codec_grammar.specs.Format.{Format, atom, number_format, array_format, varint_format, with_memory, option_format, option_refuses, nothing_format, fields_format, fields_refuses, pair_format, triple_format, content_format, content_refuses, utf8_format, counted_format, list_format, fixed_list_format, bytes_format, text_format, counted_list_format, counted_bytes_format}
use Rattle.tls_codec_grammar.specs.Errors.{Says}
use Rattle.tls_codec_grammar.specs.Field.{Field, IsBetween, RefusesDigits, RefusesOutside, bounded_field, fixed_field, variable_field}
use Rattle.tls_codec_grammar.specs.Lawful.{IsLengthField, IsLawful, MeetsFieldLaws, MeetsLaws, MeetsLawsInside}
use Rattle.tls_codec_grammar.specs.laws.NumberLaws.{digits_below, digits_field, to_digits, to_digits_digits, array_lawful, number_lawful}
use Rattle.tls_codec_grammar.specs.laws.OptionLaws.{option_lawful}
use Rattle.tls_codec_grammar.specs.laws.FieldsLaws.{nothing_lawful, fields_lawful}
use Rattle.tls_codec_grammar.specs.laws.VarintLaws.{below_each, below_field, below_named, below_none, varint_lawful}
use Rattle.tls_codec_grammar.specs.laws.ListLaws.{content_lawful, counted_lawful, utf8_lawful}

-- ---- atoms, options and products

-- a format that names no error
pub atom_meets : {spells : Grammar} {announced : Tree → ℕ} → IsLawful spells announced → MeetsLaws (atom spells announced)
atom_meets l = record { spelled = l; unspelled = λ v e p. absurd p; not_memory = λ v p. p; outside = λ v p. absurd p }

pub number_meets : (k : ℕ) → k < 2 ^ 64 → MeetsLaws (number_format k)
number_meets k small = atom_meets (number_lawful k small)

pub array_meets : (k : ℕ) → k < 2 ^ 64 → MeetsLaws (array_format k)
array_meets k small = atom_meets (array_lawful k small)

pub varint_meets : MeetsLaws varint_format
varint_meets = atom_meets varint_lawful

pub with_memory_meets : {f : Format} → MeetsLaws f → MeetsLaws (with_memory f)
with_memory_meets l = record { spelled = l.spelled; unspelled = l.unspelled; not_memory = l.not_memory; outside = l.outside }

pub option_meets : {payload : Format} → MeetsLaws payload → MeetsLaws (option_format payload)
option_meets {payload} l = record { spelled = option_lawful _ _ l.spelled; unspelled = unspelled; not_memory = not_memory; outside = λ v p. absurd p }
  where
    unspelled : (v : Tree) (e : Error) → option_refuses payload.refuses v e → HasNoSpelling (option payload.spells) v
    unspelled (Join v Empty) e p s q = l.unspelled v e p q.0 q.2
    unspelled _ e p s q = absurd search

    not_memory : (v : Tree) → option_refuses payload.refuses v OutOfMemory → ⊥
    not_memory (Join v Empty) p = l.not_memory v p
    not_memory _ p = absurd search

pub nothing_meets : MeetsLaws nothing_format
nothing_meets = atom_meets nothing_lawful

pub fields_meets : {first others : Format} → MeetsLaws first → MeetsLaws others → MeetsLaws (fields_format first others)
fields_meets {first} {others} l m = record { spelled = fields_lawful _ _ _ _ l.spelled m.spelled; unspelled = unspelled; not_memory = not_memory; outside = λ v p. absurd p }
  where
    unspelled : (v : Tree) (e : Error) → fields_refuses first.refuses others.refuses v e → HasNoSpelling (fields first.spells others.spells) v
    unspelled (Join v vs) e (inl p) s q = l.unspelled v e p q.front q.first
    unspelled (Join v vs) e (inr p) s q = m.unspelled vs e p q.rest q.second
    unspelled _ e p s q = absurd search

    not_memory : (v : Tree) → fields_refuses first.refuses others.refuses v OutOfMemory → ⊥
    not_memory (Join v vs) (inl p) = l.not_memory v p
    not_memory (Join v vs) (inr p) = m.not_memory vs p
    not_memory _ p = absurd search

pub pair_meets : {first second : Format} → MeetsLaws first → MeetsLaws second → MeetsLaws (pair_format first second)
pair_meets l m = fields_meets l (fields_meets m nothing_meets)

pub triple_meets : {first second third : Format} → MeetsLaws first → MeetsLaws second → MeetsLaws third → MeetsLaws (triple_format first second third)
triple_meets l m n = fields_meets l (fields_meets m (fields_meets n nothing_meets))

-- ---- what comes after a length field

pub content_meets : {element : Format} → MeetsLaws element → MeetsLawsInside (content_format element)
content_meets {element} l = record { spelled = content_lawful _ _ l.spelled; unspelled = unspelled; not_memory = not_memory }
  where
    unspelled : (v : Tree) (e : Error) → content_refuses element.refuses v e → HasNoSpelling (content element.spells) v
    unspelled (Join v vs) e (inl p) s q = l.unspelled v e p q.front q.first.0
    unspelled (Join v vs) e (inr p) s q = unspelled vs e p q.rest q.second
    unspelled _ e p s q = absurd search

    not_memory : (v : Tree) → content_refuses element.refuses v OutOfMemory → ⊥
    not_memory (Join v vs) (inl p) = l.not_memory v p
    not_memory (Join v vs) (inr p) = not_memory vs p
    not_memory _ p = absurd search

pub utf8_meets : MeetsLawsInside utf8_format
utf8_meets =
    let l = content_meets (number_meets 1 (omega arith)) in
    record { spelled = utf8_lawful; unspelled = λ v e p s q. l.unspelled v e p s q.0; not_memory = l.not_memory }

-- the announced length of a content is the sum, if that is no greater
pub content_length_sum : (f : Tree → ℕ) (v : Tree) → content_length f v ≡ capped (content_sum f v)
content_length_sum f (Number n) = omega arith
content_length_sum f Empty = omega arith
content_length_sum f (Join v vs) = omega (arith, content_length_sum f vs)

-- ---- what a length field counts

-- the announced lengths of elements add up to no more than the content
pub sum_fits : {element : Format} → MeetsLaws element → (c : List ℕ) (v : Tree) → content element.spells Writing c v → content_sum element.announced v ≤ length c
sum_fits {element} l c (Join v vs) p = omega (arith, ap length p.whole, length-append p.front p.rest, l.spelled.announces p.front v p.first.0, sum_fits l p.rest vs p.second)
sum_fits l c _ p = omega arith

-- and to as much, if that is less than a saturated length
pub sum_is : {element : Format} → MeetsLaws element → (c : List ℕ) (v : Tree) → length c < 2 ^ 62 → content element.spells Writing c v → content_sum element.announced v ≡ length c
sum_is {element} l c (Join v vs) lt p =
    let size : length c ≡ length p.front + length p.rest = ap length p.whole ∙ length-append p.front p.rest in
    omega (arith, lt, size, l.spelled.announces p.front v p.first.0, sum_is l p.rest vs (omega (arith, lt, size)) p.second)
sum_is l c Empty lt p = sym (ap length p)
sum_is l c (Number n) lt p = absurd p

-- so a field that spells the length of the content holds the sum
pub sum_held : {field : Field} {element : Format} → MeetsFieldLaws field → MeetsLaws element → (a c : List ℕ) (v : Tree) → field.spells a (length c) → content element.spells Writing c v → field.holds (content_sum element.announced v)
sum_held {field} m l a c v p q =
    let held = m.held a (length c) p in
    subst field.holds (sym (sum_is l c v (m.small (length c) held) q)) held

-- the laws of length fields
pub variable_field_meets : MeetsFieldLaws variable_field
variable_field_meets = record {
  counts = below_field (2 ^ 30);
  each = below_each (2 ^ 30) (omega arith);
  held = λ b n p. p.below;
  small = λ n p. omega (arith, p);
  none = below_none (2 ^ 30);
  named = below_named (2 ^ 30);
  cut = λ e p. (λ h. cut_memory e p h, λ h. cut_trailing e p h);
}
  where
    cut_memory : (e : Error) → Says (codes "declared content is not there") e → e ≡ OutOfMemory → ⊥
    cut_memory (DecodingError text) p h = absurd cc
    cut_memory _ p h = absurd p

    cut_trailing : (e : Error) → Says (codes "declared content is not there") e → e ≡ TrailingData → ⊥
    cut_trailing (DecodingError text) p h = absurd cc
    cut_trailing _ p h = absurd p

pub fixed_field_meets : (k : ℕ) → 256 ^ k ≤ 2 ^ 62 → MeetsFieldLaws (fixed_field k)
fixed_field_meets k small = record {
  counts = digits_field k;
  each = λ n lt. (to_digits k n, to_digits_digits k n lt);
  held = digits_below k;
  small = λ n p. omega (arith, p, small);
  none = none;
  named = named;
  cut = λ e p. (λ h. cc, λ h. cc);
}
  where
    none : (x : List ℕ) (e : Error) → RefusesDigits k x e → NoNumberBegins (Digits k) x
    none x EndOfStream p n rest b = absurd (omega (arith, p, ap length b.whole, length-append b.front rest, b.spelled.width))
    none x _ p n rest b = absurd p

    named : (x : List ℕ) (e : Error) → RefusesDigits k x e → (e ≢ OutOfMemory) × (e ≢ TrailingData)
    named x EndOfStream p = (λ h. cc, λ h. cc)
    named x _ p = absurd p

-- lengths with bounds
pub bounded_field_meets : (least most : ℕ) {field : Field} → MeetsFieldLaws field → MeetsFieldLaws (bounded_field least most field)
bounded_field_meets least most {field} m = record {
  counts = record {
    one = λ a b x y i j p q e. m.counts.one a b x y i j p.0 q.0 e;
    alone = λ a b n p q. m.counts.alone a b n p.0 q.0;
    measures = λ a n p. m.counts.measures a n p.0;
  };
  each = λ n p. let b = m.each n p.0 in (b.0, (b.1, p.1));
  held = λ b n p. (m.held b n p.0, p.1);
  small = λ n p. m.small n p.0;
  none = none;
  named = named;
  cut = m.cut;
}
  where
    none : (x : List ℕ) (e : Error) → RefusesOutside field least most x e → NoNumberBegins (λ s n. field.spells s n × IsBetween least most n) x
    none x InvalidVectorLength (inl p) n rest b = m.none x InvalidVectorLength p n rest (record { front = b.front; whole = b.whole; spelled = b.spelled.0 })
    none x InvalidVectorLength (inr p) n rest b =
        let same : n ≡ p.number = (m.counts.one b.front p.begins.front rest p.rest n p.number b.spelled.0 p.begins.spelled (sym b.whole ∙ p.begins.whole)).1 in
        elim p.outside [
          | inl lt ↦ absurd (omega (arith, same, lt, b.spelled.1.0))
          | inr gt ↦ absurd (omega (arith, same, gt, b.spelled.1.1))
        ]
    none x e p n rest b = m.none x e p n rest (record { front = b.front; whole = b.whole; spelled = b.spelled.0 })

    named : (x : List ℕ) (e : Error) → RefusesOutside field least most x e → (e ≢ OutOfMemory) × (e ≢ TrailingData)
    named x InvalidVectorLength p = (λ h. cc, λ h. cc)
    named x e p = m.named x e p

-- a length field and what it counts, if the field holds the sum of what is spelled
pub counted_meets : (field : Field) {sum : Tree → ℕ} {inside : Format} → IsLengthField field.spells field.width → MeetsLawsInside inside
    → ((a c : List ℕ) (v : Tree) → field.spells a (length c) → inside.spells Writing c v → field.holds (sum v)) → MeetsLaws (counted_format field sum inside)
counted_meets field {sum} {inside} m l held = record {
  spelled = counted_lawful field.spells field.width m inside.spells inside.announced l.spelled;
  unspelled = λ v e p s q. elim p [
    | inl long ↦ absurd (long.1 (held q.count q.inside v q.counts q.is_inside))
    | inr named ↦ l.unspelled v e named q.inside q.is_inside
  ];
  not_memory = λ v p. elim p [
    | inl long ↦ let h = long.0 in absurd cc
    | inr named ↦ l.not_memory v named
  ];
  outside = λ v p. inl (refl, p);
}

-- ---- lists, bytes and texts

pub counted_list_meets : {field : Field} {element : Format} → MeetsFieldLaws field → MeetsLaws element → MeetsLaws (counted_list_format field element)
counted_list_meets {field} m l = counted_meets field m.counts (content_meets l) (sum_held m l)

pub list_meets : {element : Format} → MeetsLaws element → MeetsLaws (list_format element)
list_meets l = counted_list_meets variable_field_meets l

-- whose width may be any
pub fixed_list_meets : (k : ℕ) {element : Format} → MeetsLaws element → MeetsLaws (fixed_list_format k element)
fixed_list_meets k l = counted_meets (fixed_field k) (digits_field k) (content_meets l) (λ a c v p q. omega (arith, sum_fits l c v q, digits_below k a (length c) p))

pub counted_bytes_meets : {field : Field} → MeetsFieldLaws field → MeetsLaws (counted_bytes_format field)
counted_bytes_meets m = counted_list_meets m (number_meets 1 (omega arith))

pub bytes_meets : MeetsLaws bytes_format
bytes_meets = counted_bytes_meets variable_field_meets

pub text_meets : MeetsLaws text_format
text_meets =
    let byte = number_meets 1 (omega arith) in
    counted_meets variable_field variable_field_meets.counts utf8_meets (λ a c v p q. sum_held variable_field_meets byte a c v p q.0)
