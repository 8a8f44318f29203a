-- `judge` meets its contract, test by test, in field order.
use mathlib.Core.Path.{◌∙◌}
use Rattle.request.proofs.Aged.{kind_tried, kind_other, aged_none, aged_tried}
use Rattle.request.proofs.Writing.{headed_kind, headed_tenancy, headed_age, headed_unset, headed_large, headed_long, headed_pass, none_as}
use Rattle.request.proofs.judge.Goals as goal
use Rattle.request.proofs.judge.Goals.{then-disks-eq0-via-then-disks-eq0, then-disks-eq0-via-else-disks-eq0+then-disks}
use Rattle.request.proofs.judge.Goals.{then-disks-eq0-via-else-disks-eq0+else-disks+then-q-gt-BLOCKS}

pub returns-then-kind-ne-AGED : goal.returns-then-kind-ne-AGED
returns-then-kind-ne-AGED c =
    λ d. headed_kind _ _ _ _ _ d (kind_other _ c.if-kind-ne-PLAIN.true c.if-kind-ne-AGED.true) ∙ none_as c.at.ensures

pub returns-then-tenancy-eq0 : goal.returns-then-tenancy-eq0
returns-then-tenancy-eq0 c =
    λ d. headed_tenancy _ _ _ _ _ d (kind_tried _ c.else-kind-ne-PLAIN.either) c.if-tenancy-eq0.true ∙ none_as c.at-then-tenancy-eq0.ensures

pub returns-then-age-gt0 : goal.returns-then-age-gt0
returns-then-age-gt0 c =
    λ d. headed_age _ _ _ _ _ d (kind_tried _ c.else-kind-ne-PLAIN.either) c.if-tenancy-eq0.false
    (aged_none _ _ c.if-kind-eq-PLAIN.true c.if-age-gt0.true) ∙ none_as c.at-then-age-gt0.ensures

pub returns-then-disks-eq0 : goal.returns-then-disks-eq0
returns-then-disks-eq0 c =
    let kind = kind_tried _ c.else-kind-ne-PLAIN.either in
    let young = aged_tried _ _ c.else-kind-eq-PLAIN.either in
    λ d.
    (elim c.then-disks-eq0.branch [
      | then-disks-eq0-via-then-disks-eq0 w ↦ headed_unset _ _ _ _ _ d kind c.if-tenancy-eq0.false young w.if-disks-eq0.true
      | then-disks-eq0-via-else-disks-eq0+then-disks w ↦
          headed_large _ _ _ _ _ d kind c.if-tenancy-eq0.false young w.if-disks-eq0.false w.if-disks.true
      | then-disks-eq0-via-else-disks-eq0+else-disks+then-q-gt-BLOCKS w ↦
          headed_long _ _ _ _ _ d kind c.if-tenancy-eq0.false young w.if-disks-eq0.false w.if-disks.false w.if-q-gt-BLOCKS.true
    ])
    ∙ none_as c.at-then-disks-eq0.ensures

pub returns : goal.returns
returns c =
    λ d. headed_pass _ _ _ _ _ d (record {
      kind = kind_tried _ c.else-kind-ne-PLAIN.either;
      rented = c.if-tenancy-eq0.false;
      aged = aged_tried _ _ c.else-kind-eq-PLAIN.either;
      known = c.if-disks-eq0.false;
      within = c.if-disks.false;
      count = c.if-q-gt-BLOCKS.false;
    })
