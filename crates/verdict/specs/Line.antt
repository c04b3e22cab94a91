-- The steps of a bounded trace.
use Rattle.std.specs.Prelude.{List}
use Rattle.model.specs.Table.{Transition}
use Rattle.table.specs.Rows.{named}
use Rattle.verdict.specs.declared.line.Line.{Line}

-- the transitions that its numbers name
abbrev pub along : Line → List Transition
along l = named l.rows.now l.trace.now
