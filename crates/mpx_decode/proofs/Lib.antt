pub mod Loop
pub mod Members
pub mod Integers
pub mod PostLimits
pub mod RightRows
pub mod Fours
pub mod ToldRows
pub mod OneRow
pub mod RaisedRows
pub mod Taken
pub mod NearBytes
mod FirstPosts
mod Stricter
mod RaisedCalls
mod HeldFront
mod JoinedParts
mod FrontBirths
mod FrontPosts
pub mod NoParts
pub mod NameFront
pub mod KeptRows
