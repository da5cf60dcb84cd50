use Rattle.std.proofs.Common.{◌↔◌, List, ℕ}
use Rattle.tls_codec_grammar.specs.Tree.{Tree, Empty, Join}
use Rattle.tls_codec_grammar.specs.Grammar.{Grammar, Writing, fields, nothing, pair, triple}
use Rattle.tls_codec_grammar.specs.Shortest.{IsFull}
use Rattle.tls_codec_grammar.specs.Lawful.{IsLawful}
use Rattle.tls_codec_grammar.specs.laws.FieldsLaws.{fields_lawful, nothing_lawful}
use Rattle.tls_codec_grammar.specs.laws.TaggedLaws.{no_variant_meets, variant_meets}
use Rattle.tls_codec_base.proofs.FullValues.{choice_full, fields_full, full_read, list_full, nothing_full, option_full}
use Rattle.tls_codec_base.proofs.laws.full.full_values_have_full_parts.Goals as goal

-- a part that is the last one
last_full : {first : Grammar} {f : Tree → ℕ} → IsLawful first f → (s : List ℕ) (v : Tree) → fields first nothing Writing s (Join v Empty) → (IsFull (fields first nothing) (Join v Empty) ↔ IsFull first v)
last_full l s v p =
    let h = fields_full l nothing_lawful s v Empty p in
    (λ full. (h.0 full).0, λ full. h.1 (full, nothing_full Empty))

pair_full : {first second : Grammar} {f g : Tree → ℕ} → IsLawful first f → IsLawful second g → (s : List ℕ) (v w : Tree) → pair first second Writing s (Join v (Join w Empty))
    → (IsFull (pair first second) (Join v (Join w Empty)) ↔ (IsFull first v × IsFull second w))
pair_full l m s v w p =
    let h = fields_full l (fields_lawful _ _ _ _ m nothing_lawful) s v (Join w Empty) p in
    let k = last_full m p.rest w p.second in
    (λ full. ((h.0 full).0, k.0 (h.0 full).1), λ full. h.1 (full.0, k.1 full.1))

triple_full : {first second third : Grammar} {f g h : Tree → ℕ} → IsLawful first f → IsLawful second g → IsLawful third h → (s : List ℕ) (v w z : Tree) → triple first second third Writing s (Join v (Join w (Join z Empty)))
    → (IsFull (triple first second third) (Join v (Join w (Join z Empty))) ↔ (IsFull first v × IsFull second w × IsFull third z))
triple_full l m n s v w z p =
    let h = fields_full l (fields_lawful _ _ _ _ m (fields_lawful _ _ _ _ n nothing_lawful)) s v (Join w (Join z Empty)) p in
    let k = pair_full m n p.rest w z p.second in
    (λ full. let others = k.0 (h.0 full).1 in ((h.0 full).0, others.0, others.1), λ full. h.1 (full.0, k.1 (full.1, full.2)))

pub returns : goal.returns
returns g c =
    let l = g.met.T.Size.lawful.spelled in
    let m = g.met.U.Size.lawful.spelled in
    let n = g.met.V.Size.lawful.spelled in
    record {
      read = λ form v p. full_read l form v p.spelled;
      none = λ t p. p;
      some = λ v form p. option_full l form v p.spelled;
      pairs = λ v w form p. pair_full l m form v w p.spelled;
      triples = λ v w z form p. triple_full l m n form v w z p.spelled;
      boxes = λ v form p. (λ full. full, λ full. full);
      choices = λ k one other tag vs form p.
          let variants = variant_meets one g.met.T.Size.lawful (variant_meets other g.met.U.Size.lawful no_variant_meets) in
          choice_full k (variants.parts tag).spelled form tag vs p.spelled;
      lists = λ v form p. list_full g.F.LengthField.field.spells l form v p.spelled;
    }
