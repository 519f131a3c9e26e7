-- The room that a page has.
use Rattle.std.specs.Prelude.{ℕ}

-- the places of the page, as many as any that is printed takes
abbrev pub page_room : ℕ
page_room = 90112
