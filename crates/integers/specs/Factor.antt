-- The factor by which a cell's value is stored (M-102): "M-102 multiplies by 1 for either" of the marks 1 and 2 (M-107).
use Rattle.std.specs.Prelude.{ℕ, zero, suc}

-- 0 for mark 0, 1 for any other
unfoldable pub factor : ℕ → ℕ
factor zero = 0
factor (suc mark) = 1
