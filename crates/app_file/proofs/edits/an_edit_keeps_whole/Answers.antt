use Rattle.app_file.proofs.EachCommand.{whole_edit}
use Rattle.app_file.proofs.edits.an_edit_keeps_whole.Goals as goal

pub returns : goal.returns
returns c = λ m a command turns moment e code whole bytes done.
    whole_edit m code (λ o slot v. c.what_is_kept_fits.ensures.stored m o slot v code) (λ class. c.what_is_kept_fits.ensures.new m class code)
    (record {
      count = c.a_new_link_joins_the_others.ensures.count;
      more = c.changes_keep_the_order.ensures.more;
      less = c.changes_keep_the_order.ensures.less;
      less_at = c.changes_keep_the_order.ensures.less_at;
      fewer = c.links_taken_out_are_gone.ensures.fewer;
      fewer_at = c.links_taken_out_are_gone.ensures.fewer_at;
      gone = c.links_taken_out_are_gone.ensures.at;
    }) a whole turns moment e command bytes done
