use Rattle.std.proofs.Common.{arith, refl}
use Rattle.tls_codec_validate.proofs.Placing.{rejected_here}
use Rattle.tls_codec_validate.proofs.Runs.{each_array, each_number, front_leaves, no_array_begins, no_number_begins}
use Rattle.tls_codec_validate.proofs.digits.skip.Goals as goal

pub returns-then-bytes-count-clause-number : goal.returns-then-bytes-count-clause-number
returns-then-bytes-count-clause-number c = record { none = no_number_begins _ _ (omega arith); not_memory = λ out. absurd cc }

pub returns-then-bytes-count-clause-array : goal.returns-then-bytes-count-clause-array
returns-then-bytes-count-clause-array c = record { none = no_array_begins _ _ (omega arith); not_memory = λ out. absurd cc }

pub returns-then-bytes-count-clause-rejected : goal.returns-then-bytes-count-clause-rejected
returns-then-bytes-count-clause-rejected c = rejected_here refl (refl, omega arith)

pub returns-clause-number : goal.returns-clause-number
returns-clause-number c = front_leaves (each_number c.args.count) (omega arith) c.split_at.ensures.front c.split_at.ensures.back c.see_bytes.ensures

pub returns-clause-array : goal.returns-clause-array
returns-clause-array c = front_leaves (each_array c.args.count) (omega arith) c.split_at.ensures.front c.split_at.ensures.back c.see_bytes.ensures
