use Rattle.std.proofs.Common.{Global, IsUtf8, Vec, inl, refl, subst, ℕ}
use Rattle.std.proofs.lemmas.Result.{err_from_is_err_and}
use Rattle.std.proofs.lemmas.Str.{IsUtf8-string_bytes}
use Rattle.tls_codec_base.proofs.TextDecoding.{invalid_named, text_given, text_source_refuses}
use Rattle.tls_codec_wire.proofs.Seen.{refused_so}
use Rattle.tls_codec_grammar.proofs.Named.{named_leaves}
use Rattle.tls_codec_base.proofs.texts.StringDeserialize.tls_deserialize.Goals as goal

pub returns-in_err-content-clause-reads : goal.returns-in_err-content-clause-reads
returns-in_err-content-clause-reads g c =
    let p = err_from_is_err_and c.from_residual.result c.from_residual.ensures.1 in
    rw (p.1, p.2) (record { refused = refused_so text_source_refuses c.in_err-content.ensures.reads.refused })

pub returns-in_err-content-clause-named : goal.returns-in_err-content-clause-named
returns-in_err-content-clause-named g c =
    let p = err_from_is_err_and c.from_residual.result c.from_residual.ensures.1 in
    rw (p.1, p.2) (record { refused = refused_so (λ x q. (text_source_refuses x q.0, inl q.1)) c.in_err-content.ensures.named.refused })

pub returns-in-Ok-clause-reads : goal.returns-in-Ok-clause-reads
returns-in-Ok-clause-reads g c =
    let valid = subst (λ (v : Vec ℕ Global). IsUtf8 v.items) c.in-Ok.ensures.ok (IsUtf8-string_bytes {Z = Global} c.in-Ok.text) in
    rw c.in-Ok.ensures.ok (text_given valid c.in_ok-content.ensures.reads)

pub returns-clause-reads : goal.returns-clause-reads
returns-clause-reads g c =
    named_leaves (invalid_named g.met.R.Source.gives_nothing c.in_ok-content.ensures.reads (λ valid. let ok = c.in-Err.ensures.succeeds valid in absurd cc) refl)

pub returns-clause-named : goal.returns-clause-named
returns-clause-named g c =
    invalid_named g.met.R.Source.gives_nothing c.in_ok-content.ensures.reads (λ valid. let ok = c.in-Err.ensures.succeeds valid in absurd cc) refl
