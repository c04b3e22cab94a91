-- Lists in bytes. An odd byte makes a trace 6, bytes left over make stamps 7; room is counted in whole places.
use Rattle.std.specs.Prelude.{◌≡◌, cond, List, [], ◌++◌, ℕ, ◌%◌, ◌/◌, ◌≤◌, ltb, length, drop}
use Rattle.model.specs.Table.{Transition, Machine}
use Rattle.model.specs.Trace.{Handed, steps}
use Rattle.wire.specs.Bytes.{le, les_by, wholes}
use Rattle.table.specs.Tests.{Test, unless}

-- the transitions that a trace in bytes names
abbrev pub path_in : Machine → List ℕ → List Transition
path_in m trace = steps m.transitions (wholes 2 trace)

-- what a trace in bytes is refused for
abbrev pub trace_test : Machine → List ℕ → Test
trace_test m trace = unless 6 ((length trace % 2 ≡ 0) × Handed m.transitions (wholes 2 trace))

-- the whole numbers of w bytes in b, each as f reads it
abbrev pub wholes_by : {A : Type 0} → (List ℕ → ℕ → A) → ℕ → List ℕ → List A
wholes_by f w b = les_by f w (length b / w) b 0

-- these, if no byte is left over and there are no more than room
unfoldable pub fitted_by : {A : Type 0} → (List ℕ → ℕ → A) → ℕ → ℕ → List ℕ → List A
fitted_by f room w b = cond (ltb 0 (length b % w)) [] (cond (ltb room (length b / w)) [] (wholes_by f w b))

abbrev pub fitted : ℕ → ℕ → List ℕ → List ℕ
fitted room w b = fitted_by (le w) room w b

-- what the call on values is handed: nothing if a byte is left over or the list is longer than any trace. Both are refused as nothing is: an
-- empty trace is 6, and after that test no stamps are 7.
abbrev pub handed_on : ℕ → List ℕ → List ℕ
handed_on w b = fitted 512 w b

-- the n numbers that fit stand first, then what stood there
pub record DecodedBy {A : Type 0} (f : List ℕ → ℕ → A) (w : ℕ) (b : List ℕ) (out₀ : List A) (n : ℕ) (out : List A) : Type 0 where
  pub count : n ≡ length (fitted_by f (length out₀) w b)
  pub few : n ≤ length out₀
  pub is : out ≡ fitted_by f (length out₀) w b ++ drop n out₀

abbrev pub Decoded : ℕ → List ℕ → List ℕ → ℕ → List ℕ → Type 0
Decoded w b out₀ n out = DecodedBy (le w) w b out₀ n out
