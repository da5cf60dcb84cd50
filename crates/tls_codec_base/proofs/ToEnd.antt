-- A value, and the end of its source.
use Rattle.std.proofs.Common.{ℕ, List, [], inl, inr, subst, append-nil}
use Rattle.tls_codec_wire.specs.Device.{GivesInOrder, NoCountFalls}
use Rattle.tls_codec_wire.specs.Seen.{Causes, RefusedFor, Seen}
use Rattle.tls_codec_wire.specs.Transfer.{EndRefused}
use Rattle.tls_codec_wire.specs.declared.device.Source.{Ghosts}
use Rattle.tls_codec_wire.specs.declared.error.Error.{Error}
use Rattle.tls_codec_wire.proofs.Seen.{refused_later, refused_so, seen_later}
use Rattle.tls_codec_grammar.specs.Tree.{Tree}
use Rattle.tls_codec_grammar.specs.Format.{Format}
use Rattle.tls_codec_grammar.specs.Decoding.{GaveSpelling, Named}
use Rattle.tls_codec_base.specs.PartNames.{SawSpelling, to_end_names}
use Rattle.tls_codec_base.proofs.Coming.{named_after}

module _ {S : Type 0} (source : Ghosts S) (f : Format) {a b c : S} {v : Tree} (order : GivesInOrder source.given) (p : GaveSpelling source.given f.spells a b v) where
  pub gave_all : source.given b [] c → GaveSpelling source.given f.spells a c v
  gave_all none = record { front = p.front; held = subst (λ (u : List ℕ). source.given a u c) (append-nil p.front) (order a p.front b [] c p.held none); spelled = p.spelled }

  pub saw_all : Seen source b c [] → SawSpelling source f.spells a c v
  saw_all nothing = record { bytes = p.front; seen = subst (Seen source a c) (append-nil p.front) (seen_later p.front order p.held nothing); spelled = p.spelled }

  pub not_to_end : (names : Causes) {e : Error} → NoCountFalls source.given source.counts → RefusedFor source EndRefused b c e → RefusedFor source (to_end_names f names) a c e
  not_to_end names falls q = refused_later p.front order p.held (λ x r. inr (named_after p.front (falls a p.front b p.held) (v, p.spelled) x r)) q

pub not_read_to_end : {S : Type 0} {source : Ghosts S} {f : Format} {names : Causes} {a b : S} {e : Error} → Named f names source a b e → RefusedFor source (to_end_names f names) a b e
not_read_to_end p = refused_so (λ x q. inl q) p.refused
