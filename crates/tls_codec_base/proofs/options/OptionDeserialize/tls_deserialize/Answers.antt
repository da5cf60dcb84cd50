use Rattle.std.proofs.Common.{rules, ◌≡◌, length, inl, inr, refl}
use Rattle.std.proofs.lemmas.Result.{err_from_is_err_and}
use Rattle.tls_codec_wire.proofs.Seen.{refused_later, refused_now, refused_so}
use Rattle.tls_codec_base.proofs.Coming.{named_after}
use Rattle.tls_codec_base.proofs.OptionDecoding.{no_tag_refused, one_byte_buffer, option_given, other_byte, other_tag_refused, payload_refused}
use Rattle.tls_codec_base.proofs.options.OptionDeserialize.tls_deserialize.Goals as goal

pub returns-in_err-read_exactly-clause-reads : goal.returns-in_err-read_exactly-clause-reads
returns-in_err-read_exactly-clause-reads g c =
    let p = err_from_is_err_and c.from_residual.result c.from_residual.ensures.1 in
    rw (p.1, p.2) (record { refused = refused_so (λ x q. no_tag_refused _ _ x _ _ _ q) c.in_err-read_exactly.ensures.refused })

pub returns-in_err-read_exactly-clause-named : goal.returns-in_err-read_exactly-clause-named
returns-in_err-read_exactly-clause-named g c =
    let p = err_from_is_err_and c.from_residual.result c.from_residual.ensures.1 in
    rw (p.1, p.2) (record { refused = refused_so (λ x q. (no_tag_refused _ _ x _ _ _ q, inl q)) c.in_err-read_exactly.ensures.refused })

pub returns-in_err-payload-in-1-clause-reads : goal.returns-in_err-payload-in-1-clause-reads
returns-in_err-payload-in-1-clause-reads g c =
    let p = err_from_is_err_and c.from_residual-in_err-payload-in-1.result c.from_residual-in_err-payload-in-1.ensures.1 in
    let source = g.met.R.Source in
    let tag = c.in_ok-read_exactly.ensures.filled in
    let one : length c.read_exactly.new.into ≡ 1 = search rules in
    rw (p.1, p.2) (record { refused = refused_later _ source.gives_in_order tag (payload_refused _ _ _ one c.in-1.is (source.no_count_falls _ _ _ tag)) c.in_err-payload-in-1.ensures.reads.refused })

pub returns-in_err-payload-in-1-clause-named : goal.returns-in_err-payload-in-1-clause-named
returns-in_err-payload-in-1-clause-named g c =
    let p = err_from_is_err_and c.from_residual-in_err-payload-in-1.result c.from_residual-in_err-payload-in-1.ensures.1 in
    let source = g.met.R.Source in
    let tag = c.in_ok-read_exactly.ensures.filled in
    let fell = source.no_count_falls _ _ _ tag in
    let one : length c.read_exactly.new.into ≡ 1 = search rules in
    rw (p.1, p.2) (record { refused = refused_later _ source.gives_in_order tag (λ x q. (payload_refused _ _ _ one c.in-1.is fell x q.0, inr (inr (named_after _ fell (one_byte_buffer _ 1 one c.in-1.is) x q.1)))) c.in_err-payload-in-1.ensures.named.refused })

pub returns-in_ok-payload-in-1-clause-reads : goal.returns-in_ok-payload-in-1-clause-reads
returns-in_ok-payload-in-1-clause-reads g c =
    option_given _ _ _ _ _ _ _ g.met.R.Source.gives_in_order (search rules) c.in_ok-read_exactly.ensures.filled c.in-1.is c.in_ok-payload-in-1.ensures.reads

pub returns-in_default-clause-reads : goal.returns-in_default-clause-reads
returns-in_default-clause-reads g c = record { refused = refused_now _ g.met.R.Source.gives_nothing c.in_ok-read_exactly.ensures.filled (other_tag_refused _ _ _ (search rules) (search rules) (search rules)) }

pub returns-in_default-clause-named : goal.returns-in_default-clause-named
returns-in_default-clause-named g c =
    let source = g.met.R.Source in
    let tag = c.in_ok-read_exactly.ensures.filled in
    record {
      refused = refused_now _ source.gives_nothing tag (λ x. (
        other_tag_refused _ _ _ (search rules) (search rules) (search rules) x,
        inr (inl (named_after _ (source.no_count_falls _ _ _ tag) (other_byte _ (search rules) (search rules) (search rules)) x refl)),
      ));
    }
