use Rattle.std.proofs.Common.{refl}
use Rattle.tls_codec.proofs.Seen.{told_cause}
use Rattle.tlsview_run.proofs.Paths.{slice_has_no_memory, reader_has_no_memory, accepts, refuses}
use Rattle.tlsview_run.proofs.view.view_of.Goals as goal

pub no_memory-requires-in-Err-Ok : goal.no_memory-requires-in-Err-Ok
no_memory-requires-in-Err-Ok g c =
    let refused = rw c.in-Err-Ok.is-0 at c.tls_deserialize_bytes-by_slice.ensures.splits in
    let read = rw c.in-Err-Ok.is-1 at c.tls_deserialize-by_reader.ensures.reads in
    slice_has_no_memory refused (record { front = read.front; whole = read.held; spelled = read.spelled })

pub returns-in_ok-show_least-in-Ok-Ok-clause-ok : goal.returns-in_ok-show_least-in-Ok-Ok-clause-ok
returns-in_ok-show_least-in-Ok-Ok-clause-ok g c =
    let begins = rw c.in-Ok-Ok.is-0 at c.tls_deserialize_bytes-by_slice.ensures.splits in
    let read = rw c.in-Ok-Ok.is-1 at c.tls_deserialize-by_reader.ensures.reads in
    accepts _ _ g.met.T.Size.lawful.spelled g.T.Show.text begins
    (record { front = read.front; whole = read.held; spelled = read.spelled })
    c.new-lines.ensures.bytes c.in_ok-show_value-in-Ok-Ok.ensures c.in_ok-show_value-in-Ok-Ok-2.ensures
    c.in_ok-show_least-in-Ok-Ok.ensures

pub returns-in_ok-show_refusal-in-Err-Err-2-clause-ok :
    goal.returns-in_ok-show_refusal-in-Err-Err-2-clause-ok
returns-in_ok-show_refusal-in-Err-Err-2-clause-ok g c =
    let refused = rw c.in-Err-Err.is-0 at c.tls_deserialize_bytes-by_slice.ensures.splits in
    let by_slice = c.in_ok-show_refusal-in-Err-Err.ensures in
    let by_reader = c.in_ok-show_refusal-in-Err-Err-2.ensures in
    refuses refused by_slice.of_bytes by_reader.of_bytes c.new-lines.ensures.bytes by_slice.line by_reader.line

pub no_memory-requires : goal.no_memory-requires
no_memory-requires g c =
    let begins = rw c.in-Ok-Err.is-0 at c.tls_deserialize_bytes-by_slice.ensures.splits in
    let refused = rw c.in-Ok-Err.is-1 at c.tls_deserialize-by_reader.ensures.reads in
    reader_has_no_memory (told_cause (λ a xs b q. q) refl refused.refused) begins
