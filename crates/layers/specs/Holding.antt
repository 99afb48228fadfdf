-- How often the movements of carriers are held up.
use Rattle.std.specs.Prelude.{ℕ, ◌-◌, Bool, false, if◌then◌else◌, List, map, nat_lt, slice_set}
use Rattle.std.specs.List.{slice_get}
use Rattle.std.specs.Option.{option_map_or}
use Rattle.layers.specs.declared.hold_ups.HoldUp.{HoldUp}
use Rattle.layers.specs.declared.hold_ups.HoldUps.{HoldUps}

-- a movement that is held up n times, and has not been yet
abbrev pub whole : ℕ → HoldUp
whole n = record { number = n; left = n }

-- it was held up once more
abbrev pub once_less : HoldUp → HoldUp
once_less u = record { number = u.number; left = u.left - 1 }

-- nothing has been held up yet
abbrev pub fresh : List ℕ → HoldUps
fresh ns = record { each = map whole ns }

-- whether the movement of carrier c is held up still; there is no carrier past the 16 numbers
abbrev pub held_up : HoldUps → ℕ → Bool
held_up h c = if nat_lt c 16 then option_map_or (λ u. nat_lt 0 u.left) (slice_get h.each c) false else false

-- the movement of carrier c, if there is one, as f makes it
abbrev pub changed : (HoldUp → HoldUp) → HoldUps → ℕ → HoldUps
changed f h c = option_map_or (λ u. record { each = slice_set h.each c (f u) }) (slice_get h.each c) h

-- a new movement of carrier c is held up the whole number of times
abbrev pub restarted : HoldUps → ℕ → HoldUps
restarted h c = if nat_lt c 16 then changed (λ u. whole u.number) h c else h

-- the movement of carrier c was held up once more
abbrev pub counted : HoldUps → ℕ → HoldUps
counted = changed once_less
