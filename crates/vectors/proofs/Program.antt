-- The bench's input and the shelf's turns. Their plans stand in Example.
use Prim.Native.Nat.{ℕ}
use mathlib.Core.Path.{refl}
use mathlib.Core.Bool.{true, false}
use mathlib.Core.List.{List, [], ◌++◌}
use Rattle.console.specs.Bench.{bench_input, Line}
use Rattle.hire.specs.Calls.{said}
use Rattle.unit.specs.Life.{accepted}
use Rattle.service.specs.declared.Next.TheVariants.{Served, Done}
use Rattle.service.specs.Shelf.{due, shelf_of, Comes}
use Rattle.line.specs.Text.{ascii}
use Rattle.vectors.specs.Text.{bytes}
use Rattle.vectors.proofs.Opened.{program_opened}
use Rattle.vectors.proofs.Unit.{ready, back}

-- document 01's input: unit, tenancy, the length of a settings sheet, that sheet, the length of a read request, that sheet
abbrev pub example : List ℕ
example = bytes "07 AC 02 0E 01 07 AC 02 03 04 00 01 03 02 00 0A 00 00 11 02 07 AC 02 04 02 00 01 02 00 01 02 00 01 02 01 02"

-- ---- bench

-- input after the second sheet
bench_extra : Line (bench_input (example ++ bytes "00") 0) (ascii "refused 9\n")
unfolding program_opened
bench_extra = refl

-- ---- serve

-- Return 300
serve_return : Comes (shelf_of ready) (bytes "04 AC 02") false (due true (bytes "04 AC 02") 0) Served 3 (ascii "returned\n") (shelf_of back)
unfolding program_opened
serve_return = (refl, refl, (said accepted, back, (refl, refl), refl, refl))

-- a stream that is damaged stops
serve_stop : Comes (shelf_of ready) (bytes "04 80 00") false (due true (bytes "04 80 00") 0) Done 0 (ascii "stopped 2\n") (shelf_of ready)
unfolding program_opened
serve_stop = (refl, refl, refl, refl)

-- an input that ends between two calls has no further line; one that ends inside a call stops with 1
serve_end : Comes (shelf_of ready) [] true (due true [] 0) Done 0 [] (shelf_of ready)
unfolding program_opened
serve_end = (refl, refl, refl, refl)

serve_cut : Comes (shelf_of ready) (bytes "04 AC") true (due true (bytes "04 AC") 0) Done 0 (ascii "stopped 1\n") (shelf_of ready)
unfolding program_opened
serve_cut = (refl, refl, refl, refl)
