-- What a step answers: it goes through, or stops at an offence.
use Rattle.std.specs.Prelude.{Result}
use Rattle.step_cells.specs.declared.stop.Offence.{Offence}

abbrev pub Stop : Type 0
Stop = Result Unit Offence
