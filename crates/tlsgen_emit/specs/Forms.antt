-- Which kinds of messages have answers.
use Rattle.std.specs.Prelude.{Bool, true, false}
use Rattle.tlsgen_emit.specs.declared.forms.MessageKind.{MessageKind}
use Rattle.tlsgen_emit.specs.declared.forms.MessageKind.TheVariants.{Struct, StructInContext, Then, Values, Open, Choice, Sum, Select}

abbrev pub has_answers : MessageKind → Bool
has_answers Struct = false
has_answers StructInContext = false
has_answers Then = false
has_answers Values = true
has_answers Open = false
has_answers Choice = true
has_answers Sum = false
has_answers Select = false
