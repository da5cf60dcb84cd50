-- What is printed of an input that isn't read, or stands for no bytes.
use Rattle.std.specs.Prelude.{ℕ, List, codes}
use Rattle.view_input.specs.declared.fault.InputFault.{InputFault}
use Rattle.view_input.specs.declared.fault.InputFault.TheVariants.{Long, Read, Hex, Memory}

abbrev pub fault_line : InputFault → List ℕ
fault_line Long = codes "error long\n"
fault_line Read = codes "error read\n"
fault_line Hex = codes "error hex\n"
fault_line Memory = codes "error memory\n"
