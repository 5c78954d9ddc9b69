-- sets as masks, and strict orders
pub mod Masks
-- the order that rows hold
pub mod RowOrders
-- what an order means
pub mod Orders
-- orders by pairs
pub mod PairLaws
-- orders by ranks
pub mod RankLaws
-- the number and the place of each fault
pub mod Faults
-- what filling an order answers
pub mod Answers
-- what is proved of masks
pub mod Laws
