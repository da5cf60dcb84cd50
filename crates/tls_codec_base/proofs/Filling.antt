-- Lists that fill what a source may still give, whole or up to an element that isn't taken.
use Rattle.std.proofs.Common.{◌≡◌, ℕ, ◌+◌, ◌<◌, ◌⊎◌, List, [], length, take, Option, None, Some, subst, ◌∙◌, arith}
use Rattle.std.specs.Prelude.{Ok, Err, Vec, Result}
use Rattle.std.specs.Global.{Global}
use Rattle.tls_codec_wire.specs.Bounded.{BorrowAlike, GaveWithin, inner_of, limit_of}
use Rattle.tls_codec_wire.specs.Device.{Gave, GivesInOrder, NoCountFalls}
use Rattle.tls_codec_wire.specs.Seen.{Causes, RefusedFor}
use Rattle.tls_codec_wire.specs.declared.bounded.Bounded.{Bounded}
use Rattle.tls_codec_wire.specs.declared.device.Source.{Ghosts}
use Rattle.tls_codec_wire.specs.declared.error.Error.{Error}
use Rattle.tls_codec_grammar.specs.Tree.{Tree, trees}
use Rattle.tls_codec_grammar.specs.Format.{Format}
use Rattle.tls_codec_grammar.specs.Lawful.{IsLawful}
use Rattle.tls_codec_grammar.specs.Decoding.{AllGiven}
use Rattle.tls_codec_grammar.proofs.Named.{named_leaves}
use Rattle.tls_codec_base.specs.Filling.{FillsLimit}
use Rattle.tls_codec_base.specs.PartNames.{NamedWithin}
use Rattle.tls_codec_base.specs.Turns.{MemoryOrFault, TurnedAll, TurnedBy, TurnedEach, TurnedRefusedAtOnce}
use Rattle.tls_codec_base.specs.WholeElements.{NoElementBegins}
use Rattle.tls_codec_base.specs.declared.lists.Turns.{Turns}
use Rattle.tls_codec_base.proofs.ListSources.{GivenSoFar}
use Rattle.tls_codec_base.proofs.Turns.{at_once_within_given, refused_turned_given, turned_within_attempt, turned_within_given}

-- from the same source, and with the same turns
pub filled_from : {T S : Type 0} {element : Format} {plain : T → Tree} {names : Causes} {source : Ghosts S}
    {start mid end : Bounded S} {old between new : Turns} {result : Result (Vec T Global) Error}
    → mid ≡ start → between ≡ old
    → FillsLimit element plain names source mid end between new result
    → FillsLimit element plain names source start end old new result
filled_from {T} {S} {element} {plain} {names} {source} {start} {mid} {end} {old} {between} {new} {result} limit turns p =
    let here = subst (λ (u : Bounded S). FillsLimit element plain names source u end between new result) limit p in
    subst (λ (u : Turns). FillsLimit element plain names source start end u new result) turns here

-- or none was read at once, and nothing was taken
pub filled_later : {T S : Type 0} (element : Format) (plain : T → Tree) {names : Causes} {source : Ghosts S}
    {start mid end : Bounded S} {old between new : Turns} {result : Result (Vec T Global) Error} (found : Option (Vec T Global))
    → AllGiven element plain source start mid (Ok found) → TurnedAll element.spells source start mid old between (Ok found)
    → found ≡ None → FillsLimit element plain names source mid end between new result
    → FillsLimit element plain names source start end old new result
filled_later {T} element plain {source = source} {start} {mid} {old = old} {between} found gave turned is p =
    filled_from
    (subst (λ (o : Option (Vec T Global)). AllGiven element plain source start mid (Ok o)) is gave)
    (subst (λ (o : Option (Vec T Global)). TurnedAll element.spells source start mid old between (Ok o)) is turned)
    p

module _ {T S : Type 0} {source : Ghosts S} (element : Format) (plain : T → Tree) (names : Causes)
    {start end : Bounded S} {old new : Turns} where
  -- elements fill it
  pub filled : (elements : Vec T Global) → BorrowAlike start end
      → GivenSoFar source.given element.spells (inner_of start) (inner_of end) (limit_of start) (limit_of end) (trees plain elements.items)
      → limit_of end ≡ 0 → TurnedEach elements.items old new
      → (limit_of start ≡ 0 → (elements.items ≡ []) × (inner_of end ≡ inner_of start) × (new ≡ old))
      → FillsLimit element plain names source start end old new (Ok elements)
  filled elements same read none turned untouched = record {
    same = same;
    reads = record { front = read.front; held = read.held; spelled = (omega (arith, read.fills, none), read.spelled) };
    named = tt;
    turned = turned;
    turned_if_refused = tt;
    turned_at_most = turned_within_given plain elements.items 0 read (omega (arith, turned)) (omega arith);
    nothing_asked = untouched;
  }

  -- those that are read at once
  pub filled_at_once : (found : Option (Vec T Global)) (elements : Vec T Global) → 0 < limit_of start → BorrowAlike start end
      → AllGiven element plain source start end (Ok found) → found ≡ Some elements
      → TurnedAll element.spells source start end old new (Ok found)
      → FillsLimit element plain names source start end old new (Ok elements)
  filled_at_once found elements some same gave is turned = record {
    same = same;
    reads = subst (λ (o : Option (Vec T Global)). AllGiven element plain source start end (Ok o)) is gave;
    named = tt;
    turned = subst (λ (o : Option (Vec T Global)). TurnedAll element.spells source start end old new (Ok o)) is turned;
    turned_if_refused = tt;
    turned_at_most = at_once_within_given element plain source start end found elements gave is turned;
    nothing_asked = λ none. absurd (omega (arith, none, some));
  }

  -- they are refused at once
  pub refused_at_once : {e : Error} → 0 < limit_of start → BorrowAlike start end → NamedWithin element names source start end e
      → TurnedRefusedAtOnce element.spells source start end old new e
      → FillsLimit element plain names source start end old new (Err e)
  refused_at_once some same named turned = record {
    same = same;
    reads = named_leaves named;
    named = named;
    turned = tt;
    turned_if_refused = turned.turned_if_refused;
    turned_at_most = turned.turned_at_most;
    nothing_asked = λ none. absurd (omega (arith, none, some));
  }

  -- after some elements the next one isn't taken
  pub not_filled : IsLawful element.spells element.announced → GivesInOrder source.given → NoCountFalls source.given source.counts
      → {mid : Bounded S} (xs : List T) {causes : Causes} {e : Error} → BorrowAlike start mid
      → GivenSoFar source.given element.spells (inner_of start) (inner_of mid) (limit_of start) (limit_of mid) (trees plain xs)
      → 0 < limit_of mid → TurnedBy (length xs + 1) old new → Gave (GaveWithin source.given) mid end
      → NamedWithin element names source start end e
      → ((x : List ℕ) → causes x (source.counts (inner_of mid)) (source.counts (inner_of end)) e
      → MemoryOrFault (source.counts (inner_of mid)) (source.counts (inner_of end)) e
      ⊎ NoElementBegins element.spells (take (limit_of mid) x))
      → RefusedFor source causes (inner_of mid) (inner_of end) e
      → FillsLimit element plain names source start end old new (Err e)
  not_filled lawful order falls xs same read some turned gave named why refused = record {
    same = gave.held.same ∙ same;
    reads = named_leaves named;
    named = named;
    turned = tt;
    turned_if_refused = refused_turned_given element.spells element.announced lawful plain xs order falls read turned why refused;
    turned_at_most = turned_within_attempt plain order xs 1 read gave turned (omega arith);
    nothing_asked = λ none. absurd (omega (arith, none, read.fills, some));
  }
