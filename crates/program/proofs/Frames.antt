-- The frames of a program's steps.
use Prim.Native.Nat.{ℕ, zero, suc, ◌<◌}
use mathlib.Core.List.{List, [], ◌∷◌}
use native.Mathlib.Omega.{arith}
use lib.ListN.{length, get_or}
use Rattle.program.specs.declared.frame.Frame.{Frame}
use Rattle.program.specs.Program.{Step}
use Rattle.program.specs.Kept.{FrameOf, Framed}

-- the frame of step i
pub frame_at : (fs : List Frame) (xs : List Step) (i : ℕ) (d : Step) (e : Frame) → Framed fs xs → i < length xs → FrameOf (get_or fs i e) (get_or xs i d).rules
frame_at fs [] i d e h b = absurd (omega arith)
frame_at [] (x ∷ xs) i d e h b = absurd h
frame_at (f ∷ fs) (x ∷ xs) zero d e h b = h.0
frame_at (f ∷ fs) (x ∷ xs) (suc i) d e h b = frame_at fs xs i d e h.1 (omega arith)
