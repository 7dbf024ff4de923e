-- When an id is another.
pub use Rattle.sip_transactions.specs.Ids.{is_id}
