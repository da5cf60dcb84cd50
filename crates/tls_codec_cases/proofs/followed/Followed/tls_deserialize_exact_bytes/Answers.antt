use Rattle.std.proofs.Common.{arith, inl, subst}
use Rattle.std.proofs.lemmas.Result.{err_from_is_err_and}
use Rattle.tls_codec_grammar.specs.Grammar.{Reading}
use Rattle.tls_codec_grammar.specs.Inside.{bytes_to_end_format}
use Rattle.tls_codec_grammar.proofs.ByteContents.{AreBytes-right, bytes_content}
use Rattle.tls_codec_wire.proofs.Bytes.{are_bytes}
use Rattle.tls_codec_wire.specs.Digits.{AreBytes}
use Rattle.tls_codec_cases.proofs.UpToEnd.{inside_read, inside_refused_first}
use Rattle.tls_codec_cases.proofs.followed.Followed.tls_deserialize_exact_bytes.Goals as goal

pub returns-in_err-content : goal.returns-in_err-content
returns-in_err-content g c =
    let p = err_from_is_err_and c.from_residual.result c.from_residual.ensures.1 in
    let content = g.T.Size.format in
    record {
      reads = rw (p.1, p.2) (inside_refused_first content bytes_to_end_format c.in_err-content.ensures.splits);
      named = rw (p.1, p.2) (inl c.in_err-content.ensures.named);
    }

pub returns-clause-reads : goal.returns-clause-reads
returns-clause-reads g c =
    let content = g.T.Size.format in
    let begins = c.in_ok-content.ensures.splits in
    let whole = are_bytes c.args.bytes.now (λ i. omega (arith, c.type_inv.bytes i)) in
    let rest = AreBytes-right begins.front _ (subst AreBytes begins.whole whole) in
    rw (c.in_ok-rest.ensures.ok) (inside_read content bytes_to_end_format begins (bytes_content Reading _ rest))
