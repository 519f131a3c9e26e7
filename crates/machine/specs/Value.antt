-- Expressions and tests at one record. `read` is what the record reads for each word: this is all in which the machines differ.
use Rattle.std.specs.Prelude.{None, Some}
use Rattle.std.specs.Prelude.{Bool, true, false, cond, not, ◌||◌, List, ℕ, ℤ, ◌+ℤ◌, ◌-ℤ◌}
use Rattle.std.specs.Int.Signed.{lt_z}
use Rattle.integers.specs.Range.{in_range, eq_z}
use Rattle.register.specs.declared.cells.Cell.{Cell}
use Rattle.chain.specs.Reading.{Reading}
use Rattle.chain.specs.Word.{read_of}
use Rattle.program.specs.declared.rule.Operator.{Operator}
use Rattle.program.specs.declared.rule.Operator.TheVariants.{Plus, Minus, Smaller}
use Rattle.program.specs.declared.rule.Comparison.{Comparison}
use Rattle.program.specs.declared.rule.Comparison.TheVariants.{Less, Equal, Unequal}
use Rattle.program.specs.Program.{Expression, reading, constant, operation, Test, always, when}

-- f of two values, or `else` where one is missing
unfoldable pub both : {A : Type 0} → A → (ℤ → ℤ → A) → Reading → Reading → A
both else f None y = else
both else f (Some a) None = else
both else f (Some a) (Some b) = f a b

-- `+`, `-`, and "`<?` (the smaller; both kinds)", of references by record number
unfoldable pub operate : Operator → ℤ → ℤ → ℤ
operate Plus a b = a +ℤ b
operate Minus a b = a -ℤ b
operate Smaller a b = cond (lt_z b a) b a

-- an operation on two readings: "Any unfilled operand makes the whole unfilled."
unfoldable pub combined : Operator → Reading → Reading → Reading
combined op x y = both None (λ a b. Some (operate op a b)) x y

-- the value of an expression, sums of any size
unfoldable pub value : (List ℕ → Reading) → Expression → Reading
value read (reading w) = read w
value read (constant z) = Some z
value read (operation op x y) = combined op (value read x) (value read y)

-- −2,147,483,648 to 2,147,483,647, or unfilled
unfoldable pub reading_in_range : Reading → Bool
reading_in_range None = true
reading_in_range (Some z) = in_range z

-- a stored cell, by what is read of it
unfoldable pub cell_in_range : Cell → Bool
cell_in_range c = reading_in_range (read_of c)

-- whether a sum that is formed for an expression leaves the range: "Each inner sum is checked for range .. when all its operands are filled"
unfoldable pub overflows : (List ℕ → Reading) → Expression → Bool
overflows read (reading w) = false
overflows read (constant z) = false
overflows read (operation op x y) = overflows read x || overflows read y || not (reading_in_range (combined op (value read x) (value read y)))

-- `<`, `==`, `!=`, on references by record number
unfoldable pub compare : Comparison → ℤ → ℤ → Bool
compare Less a b = lt_z a b
compare Equal a b = eq_z a b
compare Unequal a b = not (eq_z a b)

-- two sides of a test: a missing one never holds
unfoldable pub compare_readings : Comparison → Reading → Reading → Bool
compare_readings c x y = both false (compare c) x y

-- "if a test does not hold or has an unfilled side, the rule is not done"
unfoldable pub holds : (List ℕ → Reading) → Test → Bool
holds read always = true
holds read (when x c y) = compare_readings c (value read x) (value read y)
