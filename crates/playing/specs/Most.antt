-- Never more wait than the ceiling of greatest d over least u, or none in an empty table.
use Rattle.std.specs.Prelude.{List, [], ◌∷◌, ℕ, ◌+◌, ◌-◌, ◌/◌, min, max}
use Rattle.model.specs.Table.{Transition}

abbrev pub greatest_d : List Transition → ℕ
greatest_d [] = 0
greatest_d (t ∷ ts) = max t.d (greatest_d ts)

-- the least of u and every u of the list
abbrev pub least_u : ℕ → List Transition → ℕ
least_u u [] = u
least_u u (t ∷ ts) = min t.u (least_u u ts)

abbrev pub ceiling : ℕ → ℕ → ℕ
ceiling a b = (a + b - 1) / b

abbrev pub most_waiting : List Transition → ℕ
most_waiting [] = 0
most_waiting (t ∷ ts) = ceiling (greatest_d (t ∷ ts)) (least_u t.u ts)
