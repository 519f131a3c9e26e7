-- A text and its register, before the text is read.
use Rattle.std.specs.Prelude.{ℕ, cond, List, ltb, length}
use Rattle.laws.specs.Outcome.{Outcome, done, refused, after}
use Rattle.register.specs.Load.{load}
use Rattle.register.specs.declared.Sizes.{Sizes}

-- "The register is looked at first"; 6 a text "too long (line 0)": the sizes of the register where both pass
unfoldable pub admitted : List ℕ → List ℕ → Outcome Sizes
admitted file text = after (load file) (λ s. cond (ltb 8192 (length text)) (refused 6 0) (done s))
