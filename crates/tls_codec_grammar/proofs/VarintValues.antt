-- What calls on variable-length integers return, as values of a type.
use Rattle.std.proofs.Common.{◌^◌, ℕ, List, Result, Ok, Err, true, arith}
use Rattle.std.specs.Prelude.{IfErr, IfOk}
use Rattle.std.specs.Borrow.{Bor}
use Rattle.tls_codec_wire.specs.Counts.{Counts, NoneFell}
use Rattle.tls_codec_wire.specs.Numbers.{BeganNumber, BeginsNumber, NoNumberBegins, NumberNotRead, SentNumber}
use Rattle.tls_codec_wire.specs.Transfer.{WriteRefused}
use Rattle.tls_codec_wire.specs.Varint.{Varint}
use Rattle.tls_codec_wire.specs.VarintCalls.{RefusesBelow}
use Rattle.tls_codec_wire.specs.declared.device.Sink.{Ghosts}
use Rattle.tls_codec_wire.specs.declared.error.Error.{Error}
use Rattle.tls_codec_grammar.specs.Tree.{Number}
use Rattle.tls_codec_grammar.specs.Grammar.{varint}
use Rattle.tls_codec_grammar.specs.Shortest.{IsShortest}
use Rattle.tls_codec_grammar.specs.Decoding.{NoneBegins, RefusesSeen, Splits}
use Rattle.tls_codec_grammar.specs.Format.{varint_format}
use Rattle.tls_codec_grammar.specs.Encoding.{Writes}
use Rattle.tls_codec_grammar.specs.laws.AloneLaws.{alone_shortest}
use Rattle.tls_codec_grammar.specs.laws.VarintLaws.{below_named, below_none, layout_narrow, varint_lawful}
use Rattle.tls_codec_grammar.proofs.NumberRefusals.{number_refused, number_refuses}
use Rattle.tls_codec_grammar.proofs.Sent.{breaks_whole}

-- ---- reading

-- if no spelling of a number begins, none of a value does
none_begins : (x : List ℕ) → NoNumberBegins Varint x → NoneBegins varint x
none_begins x none (Number n) rest b = none n rest (record { front = b.front; whole = b.whole; spelled = b.spelled })
none_begins x none _ rest b = absurd b.spelled

-- what a prefix of the bytes is as a number it is as a value
pub varint_splits : {T : Type 0} (number : T → ℕ) (x : List ℕ) (r : Result (T × Bor (List ℕ)) Error) → IfOk r (λ found. BeginsNumber Varint x (number found.0) found.1.now) → IfErr r (RefusesBelow (2 ^ 62) x) → Splits varint_format (λ n. Number (number n)) x r
varint_splits number x (Ok found) ok err = record { front = ok.front; whole = ok.whole; spelled = ok.spelled }
varint_splits number x (Err e) ok err = number_refuses (λ y u p. none_begins y (below_none (2 ^ 62) y u p)) (below_named (2 ^ 62)) x e err

-- why a number is not read is why the value is refused
pub varint_refused : (e : Error) (x : List ℕ) (old new : Counts) → NumberNotRead (RefusesBelow (2 ^ 62)) x old new e → RefusesSeen varint true x old new e
varint_refused = number_refused (λ y u q. none_begins y (below_none (2 ^ 62) y u q)) (below_named (2 ^ 62))

-- ---- writing

-- a spelling is the shortest form
varint_shortest : (form : List ℕ) (n : ℕ) → Varint form n → IsShortest varint form (Number n)
varint_shortest form n p = alone_shortest varint_lawful form (Number n) p

pub varint_writes : {S : Type 0} (sink : Ghosts S) (old new : S) (n : ℕ) (r : Result ℕ Error) → IfOk r (SentNumber Varint (sink.received old) (sink.received new) n) → BeganNumber Varint (sink.received old) (sink.received new) n
    → IfErr r (WriteRefused (sink.counts old) (sink.counts new)) → NoneFell (sink.counts old) (sink.counts new) → Writes varint_format (Number n) sink old new r
varint_writes sink old new n (Ok width) ok began err fell =
    let narrow = layout_narrow ok.form n ok.spelled.laid_out in
    record { form = ok.form; shortest = varint_shortest ok.form n ok.spelled; held = ok.held; count = omega (arith, ok.count, narrow); fell = fell }
varint_writes sink old new n (Err e) ok began err fell = breaks_whole varint_format (Number n) began.form (varint_shortest began.form n began.spelled) sink old new e began.received err fell
