-- A form that is sent in one piece.
use Rattle.std.proofs.Common.{◌≡◌, ℕ, inl, List, subst, ◌∙◌}
use Rattle.tls_codec_wire.specs.Counts.{NoneFell}
use Rattle.tls_codec_wire.specs.Device.{IsPrefix, Received}
use Rattle.tls_codec_wire.specs.Transfer.{WriteRefused}
use Rattle.tls_codec_wire.specs.declared.device.Sink.{Ghosts}
use Rattle.tls_codec_wire.specs.declared.error.Error.{Error}
use Rattle.tls_codec_grammar.specs.Tree.{Tree}
use Rattle.tls_codec_grammar.specs.Grammar.{Writing}
use Rattle.tls_codec_grammar.specs.Shortest.{IsShortest}
use Rattle.tls_codec_grammar.specs.Format.{Format}
use Rattle.tls_codec_grammar.specs.Encoding.{Breaks, Sends}
use Rattle.tls_codec_grammar.specs.laws.RowLaws.{least_one}

-- what is sent, with an equal count
pub sends_count : {S : Type 0} {f : Format} {v : Tree} {sink : Ghosts S} {old new : S} {m n : ℕ} → Sends f v sink old new m → n ≡ m → Sends f v sink old new n
sends_count p e = record { form = p.form; shortest = p.shortest; held = p.held; count = e ∙ p.count; fell = p.fell }

module _ (f : Format) (v : Tree) (form : List ℕ) (p : IsShortest f.spells form v) {S : Type 0} (sink : Ghosts S) (old new : S) where
  pub breaks_whole : (e : Error) → Received (sink.received old) (sink.received new) form → WriteRefused (sink.counts old) (sink.counts new) e → NoneFell (sink.counts old) (sink.counts new) → Breaks f v sink old new e
  breaks_whole e received refused fell = record {
    sent = received.front;
    held = received.held;
    beginning = λ s q. subst (IsPrefix received.front) (least_one (λ t. f.spells Writing t v) form s p q) received.beginning;
    cause = inl refused;
    fell = fell;
  }
