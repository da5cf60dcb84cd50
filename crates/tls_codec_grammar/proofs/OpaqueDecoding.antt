-- Bytes after a length field, read from a slice and from a source.
use Rattle.std.proofs.Common.{◌≡◌, ℕ, ◌<◌, List, ◌++◌, length, take, drop, take-append-drop, get_or, Bool, false, inl, ◌⊎◌, inr, refl, sym, ap, subst, ◌∙◌, arith}
use Rattle.tls_codec_wire.specs.Counts.{Counts, NoneFell}
use Rattle.tls_codec_wire.specs.Device.{GivesInOrder, NoCountFalls}
use Rattle.tls_codec_wire.specs.Seen.{RefusedFor}
use Rattle.tls_codec_wire.specs.Digits.{AreBytes}
use Rattle.tls_codec_wire.specs.Numbers.{BeginsNumber, GaveNumber, NumberNotRead}
use Rattle.tls_codec_wire.specs.Transfer.{BytesRefused}
use Rattle.tls_codec_wire.specs.declared.device.Source.{Ghosts}
use Rattle.tls_codec_wire.specs.declared.error.Error.{Error}
use Rattle.tls_codec_wire.specs.declared.error.Error.TheVariants.{DecodingError, EndOfStream, InvalidVectorLength, OutOfMemory}
use Rattle.tls_codec_wire.proofs.Bytes.{are_bytes, AreBytes-left}
use Rattle.tls_codec_grammar.specs.Tree.{number_trees}
use Rattle.tls_codec_grammar.specs.Field.{Field, IsCutOff}
use Rattle.tls_codec_grammar.specs.Format.{counted_bytes_format}
use Rattle.tls_codec_grammar.specs.Grammar.{Reading, content, number}
use Rattle.tls_codec_grammar.specs.Lawful.{MeetsFieldLaws}
use Rattle.tls_codec_grammar.specs.Decoding.{Begins, GaveSpelling, Named, NoneBegins, Refuses, RefusesSeen}
use Rattle.tls_codec_grammar.specs.Opaque.{OpaqueSourceRefused}
use Rattle.tls_codec_grammar.proofs.ByteContents.{AreBytes-right, bytes_content, sized_short}
use Rattle.tls_codec_grammar.proofs.CountedDecoding.{count_refused, counted_begins, counted_given, counted_none_at_count, counted_none_at_inside}
use Rattle.tls_codec_wire.proofs.Later.{fault_later}
use Rattle.tls_codec_wire.proofs.Seen.{refused_later, refused_so}

module _ {field : Field} (m : MeetsFieldLaws field) where
  -- ---- from a slice

  -- if the length says so, the front after it is the content
  pub bytes_begin : (x : List ℕ) {behind c rest : List ℕ} {n : ℕ} → ((i : ℕ) → get_or x i 0 < 256) → BeginsNumber field.spells x n behind → c ≡ take n behind → rest ≡ drop n behind → length c ≡ n → Begins (counted_bytes_format field).spells x (number_trees c) rest
  bytes_begin x {behind} {c} {rest} {n} small p front back width =
      let whole : behind ≡ c ++ rest = sym (take-append-drop n behind) ∙ ap (λ (u : List ℕ). u ++ drop n behind) (sym front) ∙ ap (λ (u : List ℕ). c ++ u) (sym back) in
      let behind_small : AreBytes behind = AreBytes-right p.front behind (subst AreBytes p.whole (are_bytes x small)) in
      let content_small : AreBytes c = AreBytes-left c rest (subst AreBytes whole behind_small) in
      counted_begins m (content (number 1)) p (record { front = c; whole = whole; spelled = (width, bytes_content Reading c content_small) })

  -- what is cut off begins with no bytes after their length
  none_at_cut : (x : List ℕ) → IsCutOff field x → NoneBegins (counted_bytes_format field).spells x
  none_at_cut x p = counted_none_at_inside m (content (number 1)) x p.rest p.declared p.begins.front p.begins.whole p.begins.spelled (sized_short p.declared (content (number 1)) p.rest p.short)

  pub cut_off_refused : {lean : Bool} {x : List ℕ} {e : Error} → IsCutOff field x → field.cut_off e → Refuses (counted_bytes_format field).spells lean x e
  cut_off_refused {lean} {x} {e} p named = record { cause = inl (none_at_cut x p); memory = λ h. absurd ((m.cut e named).0 h) }

  -- ---- from a source

  pub bytes_given : {S : Type 0} {given : S → List ℕ → S → Type 0} {a b d : S} {n : ℕ} {c : List ℕ} → GivesInOrder given → AreBytes c → GaveNumber given field.spells a b n → given b c d → length c ≡ n → GaveSpelling given (counted_bytes_format field).spells a d (number_trees c)
  bytes_given {S} {given} {a} {b} {d} {n} {c} order small p held width =
      counted_given m (content (number 1)) order p (record { front = c; held = held; spelled = (width, bytes_content Reading c small) })

  -- why the length is not read is why the bytes are not
  pub length_not_read : (e : Error) (x : List ℕ) (old new : Counts) → NumberNotRead field.refuses x old new e → OpaqueSourceRefused field x old new e
  length_not_read (DecodingError text) x old new p = p
  length_not_read OutOfMemory x old new p = inl p
  length_not_read EndOfStream x old new p = inl p
  length_not_read e x old new p = p

  -- why the bytes after the length are not read
  pub content_not_read : (e : Error) (start before after : Counts) (front : List ℕ) (n : ℕ) → NoneFell start before → field.spells front n → (y : List ℕ) → BytesRefused n y before after e → OpaqueSourceRefused field (front ++ y) start after e
  content_not_read InvalidVectorLength start before after front n fell p y r = absurd (omega (arith, m.small n (m.held front n p), r))
  content_not_read (DecodingError text) start before after front n fell p y r = inl (r.0, fault_later start before after fell r.1)
  content_not_read EndOfStream start before after front n fell p y r = inr (record { declared = n; rest = y; begins = record { front = front; whole = refl; spelled = p }; short = r })
  content_not_read OutOfMemory start before after front n fell p y r = inr (record { declared = n; rest = y; begins = record { front = front; whole = refl; spelled = p } })
  content_not_read _ start before after front n fell p y r = absurd r

  -- and that is a refusal of the source
  pub bytes_not_read : (e : Error) (x : List ℕ) (old new : Counts) → OpaqueSourceRefused field x old new e → RefusesSeen (counted_bytes_format field).spells false x old new e
  bytes_not_read (DecodingError text) x old new p = count_refused m (content (number 1)) (DecodingError text) x old new p
  bytes_not_read OutOfMemory x old new p = record { cause = inr (inr refl); memory = λ h. inl refl }
  bytes_not_read EndOfStream x old new p = record { cause = inl (none_at_end p); memory = λ h. absurd cc }
    where
      none_at_end : field.refuses x EndOfStream ⊎ IsCutOff field x → NoneBegins (counted_bytes_format field).spells x
      none_at_end (inl early) = counted_none_at_count m (content (number 1)) x (m.none x EndOfStream early)
      none_at_end (inr cut) = none_at_cut x cut
  bytes_not_read e x old new p = count_refused m (content (number 1)) e x old new p

  -- ---- the same over a source

  module _ {S : Type 0} {source : Ghosts S} {a b : S} {e : Error} where
    opaque_not_read : RefusedFor source (OpaqueSourceRefused field) a b e → Named (counted_bytes_format field) (OpaqueSourceRefused field) source a b e
    opaque_not_read p = record { refused = refused_so (λ x q. (bytes_not_read e x _ _ q, q)) p }

    pub opaque_length_not_read : RefusedFor source (NumberNotRead field.refuses) a b e → Named (counted_bytes_format field) (OpaqueSourceRefused field) source a b e
    opaque_length_not_read p = opaque_not_read (refused_so (λ x. length_not_read e x _ _) p)

    pub opaque_content_not_read : {mid : S} {n : ℕ} → GivesInOrder source.given → NoCountFalls source.given source.counts → GaveNumber source.given field.spells a mid n → RefusedFor source (BytesRefused n) mid b e → Named (counted_bytes_format field) (OpaqueSourceRefused field) source a b e
    opaque_content_not_read {mid} {n} order falls p r = opaque_not_read (refused_later p.front order p.held (content_not_read e (source.counts a) (source.counts mid) (source.counts b) p.front n (falls a p.front mid p.held) p.spelled) r)
