-- The limits of documents 01 and 02.
--     disks_most, blocks_most, copies_most        disks of a unit, blocks of a request, copies of a block
--     cost_most, load_most, delay_most            of one disk
--     start_most, time_most                      when a disk starts; the time of a plan
--     settings_most, request_most, plan_most      the longest sheets, in bytes
--     places_most, nodes_most                    the disks and none; the blocks and the places
--     refusals_most                             the greatest number of a refusal
use Rattle.std.specs.Prelude.{ℕ}

abbrev pub disks_most : ℕ
disks_most = 64

abbrev pub blocks_most : ℕ
blocks_most = 1024

abbrev pub copies_most : ℕ
copies_most = 8

abbrev pub cost_most : ℕ
cost_most = 1000000

abbrev pub load_most : ℕ
load_most = 100000000

abbrev pub delay_most : ℕ
delay_most = 1000000

abbrev pub start_most : ℕ
start_most = 101000000

abbrev pub time_most : ℕ
time_most = 1125000000

abbrev pub settings_most : ℕ
settings_most = 717

abbrev pub request_most : ℕ
request_most = 9234

abbrev pub plan_most : ℕ
plan_most = 2964

abbrev pub places_most : ℕ
places_most = 65

abbrev pub nodes_most : ℕ
nodes_most = 1089

abbrev pub refusals_most : ℕ
refusals_most = 20
