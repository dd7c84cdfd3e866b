use Rattle.std.proofs.Common.{rules, refl, sym, subst, ap, ◌∙◌, ◌≡◌, arith, length, ◌+◌}
use Rattle.std.specs.List.{All}
use Rattle.viewer_session.specs.Sessions.{FramesHost, IsHostOf}
use Rattle.viewer_session.specs.Starts.{IsNewPass}
use Rattle.viewer_session.proofs.Passes.{no_pass, numbers_at_first, pass_added}
use Rattle.viewer_session.proofs.start.hand_out.Goals as goal

pub loop-init : goal.loop-init
loop-init c = record {
  many = search rules;
  own = c.requires.own;
  count = c.requires.all.2;
  next = c.requires.all.0;
  numbers = numbers_at_first c.args.host.note c.args.count c.requires.all.1;
  seat = c.requires.seat;
  new = no_pass c.args.scene c.in_ok-passes.passes.items c.in_ok-passes.ensures.items;
}

pub loop-preserved : goal.loop-preserved
loop-preserved c =
    let before = c.loop.invariant in
    record {
      many = search rules;
      own = subst (IsHostOf c.args.scene) (sym c.next_pass-pass.ensures.left) (record { of_table = before.own.of_table; of_tag = before.own.of_tag });
      count = ap (λ (h : FramesHost). h.tag.passes) c.next_pass-pass.ensures.left ∙ before.count;
      next = search rules;
      numbers = search (rules, before.numbers);
      seat = search rules;
      new =
          subst (All (IsNewPass c.args.scene)) (sym c.in_ok-push.ensures.items)
          (pass_added c.args.scene c.loop.passes.items c.next_pass-pass.result before.new c.next_pass-pass.ensures.pass);
    }
