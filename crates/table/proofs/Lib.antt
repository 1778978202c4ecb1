-- The laws of the table, by subject: columns and the fold over any rule; the row rule, its search and its sizes; trees and plans; refusals
-- and edits; the demands; what the entry points share.
pub mod Reasoning
pub mod Columns
pub mod Mending
pub mod Best
pub mod Rules
pub mod Search
mod Aside
pub mod Products
pub mod SizeLaws
pub mod TreeLaws
pub mod Plans
pub mod Refusals
pub mod EditLaws
pub mod Touched
pub mod Demand2
pub mod Demand3
pub mod Calls
mod Determined
