-- What is sent of a product, from what is sent of its first part and of the others.
use Rattle.std.proofs.Common.{◌≡◌, inl, inr, ℕ, ◌+◌, List, [], ◌++◌, refl, sym, ap, ◌∙◌, append_assoc, length-append, arith}
use Rattle.std.proofs.KnownBytes.{Appends-nil, Appends-trans}
use Rattle.tls_codec_wire.specs.Counts.{none_fell_refl, none_fell_trans}
use Rattle.tls_codec_wire.specs.declared.device.Sink.{Ghosts}
use Rattle.tls_codec_wire.specs.declared.error.Error.{Error}
use Rattle.tls_codec_grammar.specs.Tree.{Tree, Empty, Join}
use Rattle.tls_codec_grammar.specs.Grammar.{Writing, nothing, fields}
use Rattle.tls_codec_grammar.specs.Shortest.{IsShortest}
use Rattle.tls_codec_grammar.specs.Announced.{capped}
use Rattle.tls_codec_grammar.specs.Format.{Format, fields_format, nothing_format}
use Rattle.tls_codec_grammar.specs.Lawful.{MeetsLaws}
use Rattle.tls_codec_grammar.specs.Encoding.{Breaks, Sends}
use Rattle.tls_codec_grammar.specs.laws.AloneLaws.{alone_shortest}
use Rattle.tls_codec_grammar.specs.laws.RowLaws.{least_one}
use Rattle.tls_codec_grammar.specs.laws.FieldsLaws.{fields_least}
use Rattle.tls_codec_wire.proofs.Later.{cause_later}

-- no bytes are the shortest form of no parts
pub nothing_form : IsShortest nothing [] Empty
nothing_form = record { spelled = refl; least = λ t q. inl q }

pub nothing_sends : {S : Type 0} (sink : Ghosts S) (at : S) → Sends nothing_format Empty sink at at 0
nothing_sends sink at = record { form = []; shortest = nothing_form; held = Appends-nil (sink.received at); count = refl; fell = none_fell_refl (sink.counts at) }

module _ {first others : Format} {v vs : Tree} where
  -- the shortest form of a product is those of its first part and of the others
  pub fields_form : MeetsLaws first → MeetsLaws others → (s : List ℕ) → IsShortest (fields first.spells others.spells) s (Join v vs)
      → (x : List ℕ) × (y : List ℕ) × (s ≡ x ++ y) × IsShortest first.spells x v × IsShortest others.spells y vs
  fields_form l m s p = (p.spelled.front, p.spelled.rest, p.spelled.whole, alone_shortest l.spelled p.spelled.front v p.spelled.first, alone_shortest m.spelled p.spelled.rest vs p.spelled.second)

  module _ {S : Type 0} {sink : Ghosts S} where
    pub fields_sends : {a b c : S} {j k : ℕ} → Sends first v sink a b j → Sends others vs sink b c k → Sends (fields_format first others) (Join v vs) sink a c (capped (j + k))
    fields_sends {a} {b} {c} {j} {k} p q = record {
      form = p.form ++ q.form;
      shortest = fields_least first.spells others.spells v vs p.form q.form p.shortest q.shortest;
      held = Appends-trans (sink.received a) (sink.received b) (sink.received c) p.form q.form p.held q.held;
      count = omega (arith, p.count, q.count, length-append p.form q.form);
      fell = none_fell_trans p.fell q.fell;
    }

    -- the first part is refused
    pub fields_breaks_first : {a b : S} {e : Error} → MeetsLaws first → MeetsLaws others → Breaks first v sink a b e → Breaks (fields_format first others) (Join v vs) sink a b e
    fields_breaks_first {a} {b} {e} l m p = record {
      sent = p.sent;
      held = p.held;
      beginning = λ s q.
          let form = fields_form l m s q in
          let k = p.beginning form.0 form.3 in
          (k.0 ++ form.1, form.2 ∙ ap (λ (u : List ℕ). u ++ form.1) k.1 ∙ append_assoc p.sent k.0 form.1);
      cause = cause_later (sink.counts a) (sink.counts a) (sink.counts b) e (none_fell_refl (sink.counts a)) (λ named. inl named) p.cause;
      fell = p.fell;
    }

    -- the others are refused
    pub fields_breaks_others : {a b c : S} {j : ℕ} {e : Error} → MeetsLaws first → MeetsLaws others → Sends first v sink a b j → Breaks others vs sink b c e → Breaks (fields_format first others) (Join v vs) sink a c e
    fields_breaks_others {a} {b} {c} {j} {e} l m p q = record {
      sent = p.form ++ q.sent;
      held = Appends-trans (sink.received a) (sink.received b) (sink.received c) p.form q.sent p.held q.held;
      beginning = λ s r.
          let form = fields_form l m s r in
          let k = q.beginning form.1 form.4 in
          let same : form.0 ≡ p.form = least_one (λ u. first.spells Writing u v) form.0 p.form form.3 p.shortest in
          (k.0, form.2 ∙ ap (λ (u : List ℕ). u ++ form.1) same ∙ ap (λ (u : List ℕ). p.form ++ u) k.1 ∙ sym (append_assoc p.form q.sent k.0));
      cause = cause_later (sink.counts a) (sink.counts b) (sink.counts c) e p.fell (λ named. inr named) q.cause;
      fell = none_fell_trans p.fell q.fell;
    }
