use Rattle.std.proofs.Common.{◌↔◌, ℕ, List, ◌++◌, length, refl, subst}
use Rattle.tls_codec_grammar.specs.Tree.{Tree, Number, Empty, Join}
use Rattle.tls_codec_grammar.specs.Grammar.{Reading, Writing, Grammar, content}
use Rattle.tls_codec_grammar.specs.Shortest.{IsShortest}
use Rattle.tls_codec_grammar.specs.Field.{Field}
use Rattle.tls_codec_grammar.specs.Format.{Format, counted_list_format}
use Rattle.tls_codec_grammar.specs.Lawful.{IsLawful, MeetsFieldLaws, MeetsLaws}
use Rattle.tls_codec_grammar.specs.Spelled.{EachHasNonemptySpelling, FitTogether, HasReadingSpelling, ShortestInARow}
use Rattle.tls_codec_grammar.specs.laws.AloneLaws.{alone_inside}
use Rattle.tls_codec_grammar.specs.laws.ListLaws.{Part, content_in_a_row, content_lawful, content_written}
use Rattle.tls_codec_grammar.specs.laws.RowLaws.{row_map}
use Rattle.tls_codec_base.proofs.laws.lists_are_spelled_where_their_elements_fit.Goals as goal

module _ (element : Grammar) (f : Tree → ℕ) (l : IsLawful element f) where
  -- elements that are read have spellings that aren't empty
  each_nonempty : (c : List ℕ) (v : Tree) → content element Reading c v → EachHasNonemptySpelling element v
  each_nonempty c Empty p = tt
  each_nonempty c (Join v vs) p = ((p.front, p.first.0, p.first.1), each_nonempty p.rest vs p.second)
  each_nonempty c (Number n) p = p

  -- the shortest content is the elements' shortest forms in a row
  in_a_row : (c : List ℕ) (v : Tree) → IsShortest (content element) c v → ShortestInARow element c v
  in_a_row c Empty p = p.spelled
  in_a_row c (Join v vs) p = row_map (λ s. IsShortest element s v) (λ s. IsShortest (content element) s vs) (λ s. IsShortest element s v) (λ s. ShortestInARow element s vs) c (λ s q. q) (λ s q. in_a_row s vs q) ((content_in_a_row element f l c v vs).0 p)
  in_a_row c (Number n) p = absurd p.spelled

  -- an element's spelling that isn't empty is its only one
  stays_nonempty : (s t : List ℕ) (v : Tree) → Part element Reading v s → element Writing t v → Part element Reading v t
  stays_nonempty s t v p q = subst (Part element Reading v) (l.alone s t v (l.written s v p.0) q) p

  -- and is read if the elements have spellings that aren't empty
  row_is_read : (c : List ℕ) (v : Tree) → EachHasNonemptySpelling element v → ShortestInARow element c v → content element Reading c v
  row_is_read c Empty e p = p
  row_is_read c (Join v vs) e p = row_map (λ s. IsShortest element s v) (λ s. ShortestInARow element s vs) (Part element Reading v) (λ s. content element Reading s vs) c (λ s q. stays_nonempty e.0.0 s v (e.0.1, e.0.2) q.spelled) (λ s q. row_is_read s vs e.1 q) p
  row_is_read c (Number n) e p = p

  -- elements that are read have shortest forms, with no more bytes together
  fit_together : (holds : ℕ → Type 0) (c : List ℕ) (v : Tree) → content element Reading c v → holds (length c) → FitTogether element holds v
  fit_together holds c v p held =
      let written = content_written element f l c v p in
      record { forms = c; in_a_row = in_a_row c v (alone_inside (content_lawful element f l) c v written); fits = held }

spelled_where_fit : {field : Field} {element : Format} → MeetsFieldLaws field → MeetsLaws element → (v : Tree)
    → (HasReadingSpelling (counted_list_format field element).spells v ↔ (EachHasNonemptySpelling element.spells v × FitTogether element.spells field.holds v))
spelled_where_fit {field} {element} m l v = (
  λ p. (
    each_nonempty element.spells element.announced l.spelled p.1.inside v p.1.is_inside,
    fit_together element.spells element.announced l.spelled field.holds p.1.inside v p.1.is_inside (m.held p.1.count (length p.1.inside) p.1.counts),
  ),
  λ p.
      let count = m.each (length p.1.forms) p.1.fits in
      let read = row_is_read element.spells element.announced l.spelled p.1.forms v p.0 p.1.in_a_row in
      (count.0 ++ p.1.forms, record { count = count.0; inside = p.1.forms; whole = refl; counts = count.1; is_inside = read }),
)

pub returns : goal.returns
returns g c = spelled_where_fit g.met.F.LengthField.lawful g.met.T.Size.lawful
