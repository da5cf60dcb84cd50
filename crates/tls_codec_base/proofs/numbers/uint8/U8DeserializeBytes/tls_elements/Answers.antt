use Rattle.std.proofs.Common.{◌≡◌, ◌<◌, arith, rules, length, ℕ, List, subst, sym}
use Rattle.std.specs.Prelude.{IsErrAnd}
use Rattle.std.proofs.lemmas.Result.{err_from_is_err_and}
use Rattle.std.proofs.Math.Nat.{mod-one}
use Rattle.tls_codec_wire.specs.declared.error.Error.TheVariants.{OutOfMemory}
use Rattle.tls_codec_wire.proofs.Bytes.{are_bytes}
use Rattle.tls_codec_grammar.specs.Tree.{number_trees}
use Rattle.tls_codec_grammar.specs.Grammar.{Reading, content, number}
use Rattle.tls_codec_grammar.proofs.ByteContents.{bytes_content}
use Rattle.tls_codec_base.proofs.NumberRuns.{digits_begin}
use Rattle.tls_codec_base.proofs.numbers.uint8.U8DeserializeBytes.tls_elements.Goals as goal

pub returns-in_err-from_slice : goal.returns-in_err-from_slice
returns-in_err-from_slice c =
    let out : IsErrAnd c.from_residual.result (λ e. e ≡ OutOfMemory) = search rules in
    let p = err_from_is_err_and c.from_residual.result out in
    let bytes = are_bytes c.args.bytes.now (λ i. omega (arith, c.type_inv.bytes i)) in
    let some : 0 < length c.args.bytes.now = search rules in
    rw p.1 (p.2, digits_begin 1 c.args.bytes.now bytes some (mod-one _))

pub returns : goal.returns
returns c =
    let bytes = are_bytes c.args.bytes.now (λ i. omega (arith, c.type_inv.bytes i)) in
    subst (λ (u : List ℕ). content (number 1) Reading c.args.bytes.now (number_trees u)) (sym c.in_ok-from_slice.ensures.items) (bytes_content Reading c.args.bytes.now bytes)
