use Rattle.std.proofs.lemmas.Result.{err_from_is_err_and}
use Rattle.tls_codec_base.proofs.OptionEncoding.{none_breaks, none_sends, option_breaks, option_sends, tag_breaks}
use Rattle.tls_codec_base.proofs.options.OptionSerialize.tls_serialize.Goals as goal

pub returns-in_err-length-in-Some-clause-writes : goal.returns-in_err-length-in-Some-clause-writes
returns-in_err-length-in-Some-clause-writes g c =
    let p = err_from_is_err_and c.from_residual-in_err-length-in-Some.result c.from_residual-in_err-length-in-Some.ensures.1 in
    let some = c.in-Some.is in
    rw (p.1, p.2, some) (option_breaks g.met.T.Size.lawful c.in_ok-write_all-in-Some.ensures.whole c.write_all-in-Some.ensures.counts c.in_err-length-in-Some.ensures.writes)

pub returns-in_ok-length-in-Some-clause-writes : goal.returns-in_ok-length-in-Some-clause-writes
returns-in_ok-length-in-Some-clause-writes g c =
    let some = c.in-Some.is in
    rw some (option_sends g.met.T.Size.lawful c.in_ok-write_all-in-Some.ensures.whole c.write_all-in-Some.ensures.counts c.in_ok-length-in-Some.ensures.writes c.saturating_add.ensures)

pub returns-in_err-write_all-in-None-clause-writes : goal.returns-in_err-write_all-in-None-clause-writes
returns-in_err-write_all-in-None-clause-writes g c =
    let p = err_from_is_err_and c.from_residual.result c.from_residual.ensures.1 in
    let none = c.in-None.is in
    let sent = c.write_all.ensures in
    rw (p.1, p.2, none) (none_breaks g.T.Size.format sent.beginning c.in_err-write_all-in-None.ensures.refused sent.counts)

pub returns-in_ok-write_all-in-None-clause-writes : goal.returns-in_ok-write_all-in-None-clause-writes
returns-in_ok-write_all-in-None-clause-writes g c =
    let none = c.in-None.is in
    rw none (none_sends g.T.Size.format c.in_ok-write_all-in-None.ensures.whole c.write_all.ensures.counts)

pub returns-in_err-write_all-in-Some-clause-writes : goal.returns-in_err-write_all-in-Some-clause-writes
returns-in_err-write_all-in-Some-clause-writes g c =
    let refused = c.from_residual-in_err-write_all-in-Some in
    let p = err_from_is_err_and refused.result refused.ensures.1 in
    let some = c.in-Some.is in
    let sent = c.write_all-in-Some.ensures in
    rw (p.1, p.2, some) (tag_breaks g.met.T.Size.lawful sent.beginning c.in_err-write_all-in-Some.ensures.refused sent.counts)
