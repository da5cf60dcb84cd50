use Rattle.std.proofs.Common.{rules, ◌≡◌, ◌++◌, ◌∷◌, [], arith, ap, inl, inr, length, length-append, refl}
use Rattle.std.proofs.lemmas.Result.{err_from_is_err_and}
use Rattle.tls_codec_base.proofs.ListReading.{element_named, element_refused, found_empty, found_long, no_memory_at_first, none_if_empty, none_if_long, read_more, read_none}
use Rattle.tls_codec_base.proofs.Turns.{at_once_within, refused_turned, turned_within, why_slice_refused}
use Rattle.tls_codec_base.proofs.WholeElements.{none_after_hollow, none_fits}
use Rattle.tls_codec_base.proofs.lists.engines.reading.split.Goals as goal

pub loop-left-init : goal.loop-left-init
loop-left-init g c =
    let none = c.new-elements.ensures.items in
    record {
      read = rw none (read_none _ _ _);
      turned = omega (arith, ap length none, c.args.turns.now.fits);
      untouched = λ e. (none, refl, refl);
    }

pub returns-in_err-element-clause-splits : goal.returns-in_err-element-clause-splits
returns-in_err-element-clause-splits g c =
    let p = err_from_is_err_and c.from_residual-in_err-element.result c.from_residual-in_err-element.ensures.1 in
    rw (p.1, p.2) (element_refused _ _ (g.met.K.ElementCoding.lawful c.args.coding.now).spelled _ _ _ _ _ _ _ c.loop-left.invariant.read (omega arith) c.in_err-element.ensures.splits)

pub returns-then-taken-eq0-clause-splits : goal.returns-then-taken-eq0-clause-splits
returns-then-taken-eq0-clause-splits g c = record {
  cause = inl (none_if_empty _ _ (g.met.K.ElementCoding.lawful c.args.coding.now).spelled _ _ _ _ _ _ _ c.loop-left.invariant.read (omega arith) c.in_ok-element.ensures.splits c.if-taken-eq0.true);
  memory = λ h. refl;
}

pub returns-then-taken-left-clause-splits : goal.returns-then-taken-left-clause-splits
returns-then-taken-left-clause-splits g c = record {
  cause = inl (none_if_long _ _ (g.met.K.ElementCoding.lawful c.args.coding.now).spelled _ _ _ _ _ _ _ c.loop-left.invariant.read (omega arith) c.in_ok-element.ensures.splits (omega arith));
  memory = λ h. refl;
}

pub loop-left-preserved : goal.loop-left-preserved
loop-left-preserved g c =
    let items : c.push_element.new.elements.items ≡ c.loop-left.elements.items ++ c.in_ok-element.element ∷ [] = search rules in
    record {
      read = read_more g.K.ElementCoding.plain _ _ _ _ c.loop-left.elements.items _ c.in_ok-element.element _ c.push_element.new.elements.items c.loop-left.invariant.read c.in_ok-element.ensures.splits c.if-taken-eq0.false (omega arith) items;
      turned = omega (arith, c.loop-left.invariant.turned, c.turn.ensures, ap length items, length-append c.loop-left.elements.items (c.in_ok-element.element ∷ []));
      untouched = λ none. absurd (omega (arith, none, c.loop-left.invariant.read.fills));
    }

pub returns-in_err-element-clause-named : goal.returns-in_err-element-clause-named
returns-in_err-element-clause-named g c =
    let p = err_from_is_err_and c.from_residual-in_err-element.result c.from_residual-in_err-element.ensures.1 in
    rw (p.1, p.2) (element_named (g.K.ElementCoding.format c.args.coding.now) (g.K.ElementSplitter.names c.args.coding.now) c.loop-left.invariant.read (omega arith) (inl (c.in_err-element.ensures.splits, c.in_err-element.ensures.named)))

pub returns-then-taken-eq0-clause-named : goal.returns-then-taken-eq0-clause-named
returns-then-taken-eq0-clause-named g c =
    element_named (g.K.ElementCoding.format c.args.coding.now) (g.K.ElementSplitter.names c.args.coding.now) c.loop-left.invariant.read (omega arith) (inr (inl (refl, found_empty c.in_ok-element.ensures.splits c.if-taken-eq0.true)))

pub returns-then-taken-left-clause-named : goal.returns-then-taken-left-clause-named
returns-then-taken-left-clause-named g c =
    element_named (g.K.ElementCoding.format c.args.coding.now) (g.K.ElementSplitter.names c.args.coding.now) c.loop-left.invariant.read (omega arith) (inr (inr (inl (refl, found_long c.in_ok-element.ensures.splits (omega arith)))))

pub returns-in_err-push_element-clause-named : goal.returns-in_err-push_element-clause-named
returns-in_err-push_element-clause-named g c =
    let p = err_from_is_err_and c.from_residual-in_err-push_element.result c.from_residual-in_err-push_element.ensures.1 in
    rw (p.1, p.2, c.in_err-push_element.ensures.err) (element_named (g.K.ElementCoding.format c.args.coding.now) (g.K.ElementSplitter.names c.args.coding.now) c.loop-left.invariant.read (omega arith) (inr (inr (inr (refl, record { value = _; rest = _; begins = c.in_ok-element.ensures.splits })))))

pub returns-in_err-elements-clause-named : goal.returns-in_err-elements-clause-named
returns-in_err-elements-clause-named g c =
    let p = err_from_is_err_and c.from_residual.result c.from_residual.ensures.1 in
    rw (p.1, p.2) (element_named (g.K.ElementCoding.format c.args.coding.now) (g.K.ElementSplitter.names c.args.coding.now) (read_none _ _ _) (omega arith) (inr (inr (inr (no_memory_at_first c.args.length (search rules) c.in_err-elements.ensures)))))

pub returns-in_err-element-clause-turned_if_refused : goal.returns-in_err-element-clause-turned_if_refused
returns-in_err-element-clause-turned_if_refused g c =
    let p = err_from_is_err_and c.from_residual-in_err-element.result c.from_residual-in_err-element.ensures.1 in
    rw (p.1, p.2) (refused_turned _ _ (g.met.K.ElementCoding.lawful c.args.coding.now).spelled g.K.ElementCoding.plain c.loop-left.elements.items c.loop-left.invariant.read (omega (arith, c.loop-left.invariant.turned, c.turn.ensures)) (why_slice_refused _ c.in_err-element.ensures.splits))

pub returns-then-taken-eq0-clause-turned_if_refused : goal.returns-then-taken-eq0-clause-turned_if_refused
returns-then-taken-eq0-clause-turned_if_refused g c =
    refused_turned _ _ (g.met.K.ElementCoding.lawful c.args.coding.now).spelled g.K.ElementCoding.plain c.loop-left.elements.items c.loop-left.invariant.read (omega (arith, c.loop-left.invariant.turned, c.turn.ensures)) (inr (none_after_hollow _ _ (g.met.K.ElementCoding.lawful c.args.coding.now).spelled _ (found_empty c.in_ok-element.ensures.splits c.if-taken-eq0.true)))

pub returns-then-taken-left-clause-turned_if_refused : goal.returns-then-taken-left-clause-turned_if_refused
returns-then-taken-left-clause-turned_if_refused g c =
    refused_turned _ _ (g.met.K.ElementCoding.lawful c.args.coding.now).spelled g.K.ElementCoding.plain c.loop-left.elements.items c.loop-left.invariant.read (omega (arith, c.loop-left.invariant.turned, c.turn.ensures)) (inr (none_fits _ _ (g.met.K.ElementCoding.lawful c.args.coding.now).spelled c.in_ok-element.ensures.splits (omega arith)))

pub returns-in_err-push_element-clause-turned_if_refused : goal.returns-in_err-push_element-clause-turned_if_refused
returns-in_err-push_element-clause-turned_if_refused g c =
    let p = err_from_is_err_and c.from_residual-in_err-push_element.result c.from_residual-in_err-push_element.ensures.1 in
    rw (p.1, p.2, c.in_err-push_element.ensures.err) (refused_turned _ _ (g.met.K.ElementCoding.lawful c.args.coding.now).spelled g.K.ElementCoding.plain c.loop-left.elements.items c.loop-left.invariant.read (omega (arith, c.loop-left.invariant.turned, c.turn.ensures)) (inl refl))

pub returns-in-Some-clause-turned_at_most : goal.returns-in-Some-clause-turned_at_most
returns-in-Some-clause-turned_at_most g c = at_once_within (g.K.ElementCoding.format c.args.coding.now) g.K.ElementCoding.plain _ _ _ c.in-Some.elements c.in_ok-elements.ensures c.in-Some.is (omega arith) (omega arith) (omega (arith, c.turn_by.ensures, c.len.ensures))

pub returns-in_err-element-clause-turned_at_most : goal.returns-in_err-element-clause-turned_at_most
returns-in_err-element-clause-turned_at_most g c = turned_within g.K.ElementCoding.plain c.loop-left.elements.items 1 c.loop-left.invariant.read (omega (arith, c.loop-left.invariant.turned, c.turn.ensures)) (omega arith)

pub returns-then-taken-eq0-clause-turned_at_most : goal.returns-then-taken-eq0-clause-turned_at_most
returns-then-taken-eq0-clause-turned_at_most g c = turned_within g.K.ElementCoding.plain c.loop-left.elements.items 1 c.loop-left.invariant.read (omega (arith, c.loop-left.invariant.turned, c.turn.ensures)) (omega arith)

pub returns-then-taken-left-clause-turned_at_most : goal.returns-then-taken-left-clause-turned_at_most
returns-then-taken-left-clause-turned_at_most g c = turned_within g.K.ElementCoding.plain c.loop-left.elements.items 1 c.loop-left.invariant.read (omega (arith, c.loop-left.invariant.turned, c.turn.ensures)) (omega arith)

pub returns-in_err-push_element-clause-turned_at_most : goal.returns-in_err-push_element-clause-turned_at_most
returns-in_err-push_element-clause-turned_at_most g c = turned_within g.K.ElementCoding.plain c.loop-left.elements.items 1 c.loop-left.invariant.read (omega (arith, c.loop-left.invariant.turned, c.turn.ensures)) (omega arith)

pub returns-clause-turned_at_most : goal.returns-clause-turned_at_most
returns-clause-turned_at_most g c = turned_within g.K.ElementCoding.plain c.loop-left.elements.items 0 c.loop-left.invariant.read (omega (arith, c.loop-left.invariant.turned)) (omega arith)

pub returns-in_err-push_element-clause-splits : goal.returns-in_err-push_element-clause-splits
returns-in_err-push_element-clause-splits g c =
    let p = err_from_is_err_and c.from_residual-in_err-push_element.result c.from_residual-in_err-push_element.ensures.1 in
    rw (p.1, p.2, c.in_err-push_element.ensures.err) (record { cause = inr refl; memory = λ h. refl })

pub returns-clause-splits : goal.returns-clause-splits
returns-clause-splits g c =
    let read = c.loop-left.invariant.read in
    record { front = read.front; whole = read.whole; spelled = (omega (arith, read.fills), read.spelled) }

pub returns-in-Some-clause-nothing_asked : goal.returns-in-Some-clause-nothing_asked
returns-in-Some-clause-nothing_asked g c none = absurd (omega (arith, none))

pub returns-in_err-elements-clause-nothing_asked : goal.returns-in_err-elements-clause-nothing_asked
returns-in_err-elements-clause-nothing_asked g c none = absurd (omega (arith, none))

pub returns-in_err-element-clause-nothing_asked : goal.returns-in_err-element-clause-nothing_asked
returns-in_err-element-clause-nothing_asked g c none = absurd (omega (arith, none, c.loop-left.invariant.read.fills))

pub returns-then-taken-eq0-clause-nothing_asked : goal.returns-then-taken-eq0-clause-nothing_asked
returns-then-taken-eq0-clause-nothing_asked g c none = absurd (omega (arith, none, c.loop-left.invariant.read.fills))

pub returns-then-taken-left-clause-nothing_asked : goal.returns-then-taken-left-clause-nothing_asked
returns-then-taken-left-clause-nothing_asked g c none = absurd (omega (arith, none, c.loop-left.invariant.read.fills))

pub returns-in_err-push_element-clause-nothing_asked : goal.returns-in_err-push_element-clause-nothing_asked
returns-in_err-push_element-clause-nothing_asked g c none = absurd (omega (arith, none, c.loop-left.invariant.read.fills))

pub returns-clause-nothing_asked : goal.returns-clause-nothing_asked
returns-clause-nothing_asked g c none =
    let untouched = c.loop-left.invariant.untouched none in
    ((untouched.0, untouched.1), untouched.2)
