-- `chain_text::text::starts_with` meets its contract.
use mathlib.Core.Path.{sym}
use borrow.Author.Tests.{le-ltb}
use Rattle.chain_text.proofs.Forms.{starts-within, starts-past}
use Rattle.chain_text.proofs.text.starts_with.Goals as goal

pub returns-then-at-text : goal.returns-then-at-text
returns-then-at-text c = sym (starts-within _ _ _ c.if-at-text.true)

pub returns-else-at-text : goal.returns-else-at-text
returns-else-at-text c = rw (le-ltb _ _ c.if-at-text.false) (sym (starts-past _ _ _ c.if-at-text.false))
