-- The tests that a call on a trace begins with.
use Rattle.std.specs.Prelude.{List, [], ◌∷◌, ℕ}
use Rattle.model.specs.Table.{Machine}
use Rattle.model.specs.Trace.{Handed}
use Rattle.table.specs.Tests.{Test, unless, after_table}

-- after the tests of the table 6 for no step, more than 512, a number that names no transition, or steps that are not joined
abbrev pub handed_tests : Machine → List ℕ → List Test
handed_tests m trace = after_table m (unless 6 (Handed m.transitions trace) ∷ [])
