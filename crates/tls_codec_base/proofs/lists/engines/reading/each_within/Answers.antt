use Rattle.std.proofs.Common.{rules, ◌≡◌, ◌∙◌, ◌++◌, ◌∷◌, [], arith, ap, inl, inr, length, length-append, refl, sym}
use Rattle.std.proofs.lemmas.Result.{err_from_is_err_and}
use Rattle.tls_codec_wire.specs.Bounded.{gives_in_order_within}
use Rattle.tls_codec_wire.proofs.Seen.{seen_gave}
use Rattle.tls_codec_base.proofs.Filling.{filled, not_filled}
use Rattle.tls_codec_base.proofs.ListSources.{given_empty, given_inside, given_more, list_of_hollow, list_refused, list_without_memory, refused_inside}
use Rattle.tls_codec_base.proofs.Turns.{why_refused}
use Rattle.tls_codec_base.proofs.WholeElements.{none_after_hollow}
use Rattle.tls_codec_base.proofs.lists.engines.reading.each_within.Goals as goal

pub elements-init : goal.elements-init
elements-init g c =
    let none = c.new-elements.ensures.items in
    record {
      same = refl;
      read = rw none (record { front = []; held = g.met.R.Source.gives_nothing _; fills = omega arith; spelled = search rules });
      turned = omega (arith, ap length none, c.args.turns.now.fits);
      untouched = λ e. (none, refl, refl);
    }

pub elements-preserved : goal.elements-preserved
elements-preserved g c =
    let before = c.elements.invariant in
    let items : c.push_element.new.elements.items ≡ c.elements.elements.items ++ c.in_ok-element.element ∷ [] = search rules in
    record {
      same = c.in_ok-element.ensures.reads.held.same ∙ before.same;
      read = given_more _ _ g.met.R.Source.gives_in_order _ _ _ _ g.K.ElementCoding.plain c.elements.elements.items c.in_ok-element.element c.push_element.new.elements.items before.read c.in_ok-element.ensures.reads (λ e. c.if-limit-before.false (c.limit-in-elements.ensures ∙ e ∙ sym c.limit-before.ensures)) items;
      turned = omega (arith, before.turned, c.turn.ensures, ap length items, length-append c.elements.elements.items (c.in_ok-element.element ∷ []));
      untouched = λ none. absurd (omega (arith, none, before.read.fills, c.limit.ensures));
    }

pub returns-in_err-element : goal.returns-in_err-element
returns-in_err-element g c =
    let source = g.met.R.Source in
    let before = c.elements.invariant in
    let refused = refused_inside c.in_err-element.ensures.named in
    let p = err_from_is_err_and c.from_residual.result c.from_residual.ensures.1 in
    let lawful = (g.met.K.ElementCoding.lawful c.args.coding.now).spelled in
    rw (p.1, p.2) (not_filled (g.K.ElementCoding.format c.args.coding.now) g.K.ElementCoding.plain (g.K.ElementReader.names c.args.coding.now)
    lawful source.gives_in_order source.no_count_falls c.elements.elements.items before.same before.read
    (omega (arith, c.limit.ensures))
    (omega (arith, before.turned, c.turn.ensures))
    (seen_gave (gives_in_order_within g.R.Source.given source.gives_in_order) c.in_err-element.ensures.reads.refused.seen)
    (list_refused (g.K.ElementCoding.format c.args.coding.now) (g.K.ElementReader.names c.args.coding.now) lawful source.gives_in_order source.no_count_falls
    before.read (omega (arith, c.limit.ensures)) refused)
    (λ x q. why_refused _ q.0)
    refused)

pub returns-then-limit-before : goal.returns-then-limit-before
returns-then-limit-before g c =
    let source = g.met.R.Source in
    let before = c.elements.invariant in
    let element = c.in_ok-element.ensures.reads in
    let hollow = given_empty element (omega (arith, c.limit-before.ensures, c.limit-in-elements.ensures, c.if-limit-before.true)) in
    let lawful = (g.met.K.ElementCoding.lawful c.args.coding.now).spelled in
    not_filled (g.K.ElementCoding.format c.args.coding.now) g.K.ElementCoding.plain (g.K.ElementReader.names c.args.coding.now)
    lawful source.gives_in_order source.no_count_falls c.elements.elements.items before.same before.read
    (omega (arith, c.limit.ensures))
    (omega (arith, before.turned, c.turn.ensures))
    (record { bytes = element.front; held = element.held })
    (list_of_hollow (g.K.ElementCoding.format c.args.coding.now) (g.K.ElementReader.names c.args.coding.now) lawful source.gives_in_order source.no_count_falls
    before.read (omega (arith, c.limit.ensures)) refl hollow (given_inside source.gives_nothing element))
    (λ x q. inr (none_after_hollow _ _ lawful _ hollow))
    (given_inside source.gives_nothing element)

pub returns-in_err-push_element : goal.returns-in_err-push_element
returns-in_err-push_element g c =
    let p = err_from_is_err_and c.from_residual-in_err-push_element.result c.from_residual-in_err-push_element.ensures.1 in
    let source = g.met.R.Source in
    let before = c.elements.invariant in
    let element = c.in_ok-element.ensures.reads in
    let lawful = (g.met.K.ElementCoding.lawful c.args.coding.now).spelled in
    rw (p.1, p.2, c.in_err-push_element.ensures.err) (not_filled (g.K.ElementCoding.format c.args.coding.now) g.K.ElementCoding.plain (g.K.ElementReader.names c.args.coding.now)
    lawful source.gives_in_order source.no_count_falls c.elements.elements.items before.same before.read
    (omega (arith, c.limit.ensures))
    (omega (arith, before.turned, c.turn.ensures))
    (record { bytes = element.front; held = element.held })
    (list_without_memory (g.K.ElementCoding.format c.args.coding.now) (g.K.ElementReader.names c.args.coding.now) lawful source.gives_in_order source.no_count_falls
    before.read refl (given_inside source.gives_nothing element))
    (λ x q. inl (inl refl))
    (given_inside source.gives_nothing element))

pub returns : goal.returns
returns g c =
    let so_far = c.elements.invariant in
    filled (g.K.ElementCoding.format c.args.coding.now) g.K.ElementCoding.plain (g.K.ElementReader.names c.args.coding.now) c.elements.elements
    so_far.same so_far.read (omega (arith, c.limit.ensures)) so_far.turned so_far.untouched
