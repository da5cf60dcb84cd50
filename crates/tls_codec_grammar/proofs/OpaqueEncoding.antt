-- Bytes that are sent after a length field.
use Rattle.std.proofs.Common.{◌≡◌, ℕ, ◌+◌, List, [], ◌∷◌, ◌++◌, length, length-append, refl, arith}
use Rattle.std.specs.Io.KnownBytes.{Appends}
use Rattle.tls_codec_wire.specs.Counts.{NoneFell}
use Rattle.tls_codec_wire.specs.Device.{Received}
use Rattle.tls_codec_wire.specs.Digits.{AreBytes}
use Rattle.tls_codec_wire.specs.Numbers.{SentNumber}
use Rattle.tls_codec_wire.specs.Transfer.{WriteRefused}
use Rattle.tls_codec_wire.specs.declared.device.Sink.{Ghosts}
use Rattle.tls_codec_wire.specs.declared.error.Error.{Error}
use Rattle.tls_codec_grammar.specs.Tree.{number_trees}
use Rattle.tls_codec_grammar.specs.Announced.{capped, content_sum}
use Rattle.tls_codec_grammar.specs.Field.{Field}
use Rattle.tls_codec_grammar.specs.Grammar.{content, number}
use Rattle.tls_codec_grammar.specs.Format.{content_format, counted_bytes_format, number_format}
use Rattle.tls_codec_grammar.specs.laws.FormatLaws.{content_meets, number_meets}
use Rattle.tls_codec_grammar.specs.laws.ListLaws.{counted_shortest}
use Rattle.tls_codec_grammar.specs.Lawful.{MeetsFieldLaws, MeetsLawsInside}
use Rattle.tls_codec_grammar.specs.Encoding.{Appended, Breaks, Sends}
use Rattle.tls_codec_grammar.proofs.ByteContents.{bytes_length, bytes_shortest}
use Rattle.tls_codec_grammar.proofs.CountedEncoding.{field_breaks_inside, field_sends}
use Rattle.tls_codec_grammar.proofs.Sent.{breaks_whole}

-- bytes as what comes after a length field
pub byte_contents_meet : MeetsLawsInside (content_format (number_format 1))
byte_contents_meet = content_meets (number_meets 1 (omega arith))

-- the sum of the announced lengths of bytes is their number
pub bytes_sum : (c : List ℕ) → content_sum (λ v. 1) (number_trees c) ≡ length c
bytes_sum [] = refl
bytes_sum (b ∷ bs) = omega (arith, bytes_sum bs)

module _ {field : Field} (m : MeetsFieldLaws field) (c : List ℕ) (small : AreBytes c) where
  module _ {S : Type 0} {sink : Ghosts S} where
    -- their length was sent, and then they were
    pub bytes_sent : {old new : S} (mid : S) {width total : ℕ} → SentNumber field.spells (sink.received old) (sink.received mid) (length c) width → NoneFell (sink.counts old) (sink.counts mid) → Appends (sink.received mid) (sink.received new) c → NoneFell (sink.counts mid) (sink.counts new)
        → total ≡ capped (width + length c) → Sends (counted_bytes_format field) (number_trees c) sink old new total
    bytes_sent {old} {new} mid {width} {total} p fell held later count =
        let sent : Sends (content_format (number_format 1)) (number_trees c) sink mid new (capped (length c)) = record { form = c; shortest = bytes_shortest c small; held = held; count = refl; fell = later } in
        field_sends m byte_contents_meet (bytes_length c) p fell sent (omega (arith, count))

    -- their length was sent, and then a prefix of them
    pub bytes_broken : {old new : S} (mid : S) {width : ℕ} {e : Error} → SentNumber field.spells (sink.received old) (sink.received mid) (length c) width → NoneFell (sink.counts old) (sink.counts mid) → Received (sink.received mid) (sink.received new) c → WriteRefused (sink.counts mid) (sink.counts new) e → NoneFell (sink.counts mid) (sink.counts new)
        → Breaks (counted_bytes_format field) (number_trees c) sink old new e
    bytes_broken {old} {new} mid {width} {e} p fell received refused later =
        field_breaks_inside m byte_contents_meet (bytes_length c) p fell (breaks_whole (content_format (number_format 1)) _ c (bytes_shortest c small) sink mid new e received refused later)

  -- bytes after their length, in a vector
  pub bytes_appended : {old new : List ℕ} (form : List ℕ) → field.spells form (length c) → {n : ℕ} → new ≡ old ++ (form ++ c) → n ≡ length form + length c → Appended (counted_bytes_format field) (number_trees c) old new n
  bytes_appended {old} {new} form counts {n} held count = record {
    form = form ++ c;
    shortest = counted_shortest field.spells field.width m.counts (content (number 1)) _ byte_contents_meet.spelled form c (number_trees c) counts (bytes_shortest c small).spelled;
    held = held;
    count = omega (arith, count, length-append form c);
  }
