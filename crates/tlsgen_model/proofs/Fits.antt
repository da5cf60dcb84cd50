-- What holds of each element holds with one more.
use Rattle.std.proofs.Common.{ℕ, List, [], ◌∷◌, ◌++◌, ◌<◌, ◌^◌}
use Rattle.std.specs.List.{All}
use Rattle.std.proofs.lemmas.List.Elements.{All-push}
use Rattle.tlsgen_model.specs.Writable.{AreWritable, HaveTypes, IsCase, IsWritable}
use Rattle.tlsgen_model.specs.Types.{IsType}
use Rattle.tlsgen_model.specs.declared.plan.Member.{Member}
use Rattle.tlsgen_model.specs.declared.plan.Message.{Message}
use Rattle.tlsgen_model.specs.declared.plan.Value.{Value}
use Rattle.tlsgen_model.specs.declared.plan.Variant.{Variant}

pub types_push : (xs : List Member) (x : Member) → HaveTypes xs → IsType x.of → HaveTypes (xs ++ x ∷ [])
types_push = All-push (λ member. IsType member.of)

pub values_fit_push : (width : ℕ) (xs : List Value) (x : Value) → All (λ value. value.number < 256 ^ width) xs → x.number < 256 ^ width → All (λ value. value.number < 256 ^ width) (xs ++ x ∷ [])
values_fit_push width = All-push (λ value. value.number < 256 ^ width)

pub cases_fit_push : (width : ℕ) (xs : List Variant) (x : Variant) → All (IsCase width) xs → IsCase width x → All (IsCase width) (xs ++ x ∷ [])
cases_fit_push width = All-push (IsCase width)

pub writable_push : (xs : List Message) (x : Message) → AreWritable xs → IsWritable x.body → AreWritable (xs ++ x ∷ [])
writable_push = All-push (λ message. IsWritable message.body)
